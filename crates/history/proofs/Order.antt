-- The order of a block and of the serial list, of any list of events: a block keeps the order of its calls, and the
-- calls that are kept, with the accepted saves, stand in the serial list in the order of the history.
use Prim.Native.Nat.{ℕ}
use mathlib.Core.Path.{◌≡◌, refl, ap}
use mathlib.Core.Bool.{Bool, true, false, cond}
use mathlib.Core.List.{List, [], ◌∷◌, ◌++◌}
use Rattle.ground.proofs.Booleans.{by_test}
use Rattle.register.specs.Calls.{Ask, new_hull, open_hull, work, save, drop_draft, ask}
use Rattle.history.specs.Replies.{accepted}
use Rattle.history.specs.Runs.{Event, ◌⇒◌}
use Rattle.history.specs.History.{Role, its_open, its_call, its_end, elsewhere, role, block, spot, serial}
use Rattle.history.proofs.WholeBlock.{Known, an_open, some_work, vain_save, an_end, another, known}

-- ---- a block

-- the list of the first is had from the second by leaving events out
pub data Sublist : List Event → List Event → Type 0 where
  done : Sublist [] []
  left : {e : Event} {a b : List Event} → Sublist a b → Sublist a (e ∷ b)
  kept : {e : Event} {a b : List Event} → Sublist a b → Sublist (e ∷ a) (e ∷ b)

none_kept : (b : List Event) → Sublist [] b
none_kept [] = done
none_kept (e ∷ b) = left (none_kept b)

-- A block keeps its calls' order.
pub block_in_order : (d : ℕ) (past : List Event) → Sublist (block d past) past
unfolding block
block_in_order d [] = done
block_in_order d (e ∷ past) = go (role d e) refl (block_in_order d past)
  where
    go : (s : Role) → role d e ≡ s → Sublist (block d past) past → Sublist (block d (e ∷ past)) (e ∷ past)
    go its_open p k = rw (p, block) (kept (none_kept past))
    go its_call p k = rw (p, block) (kept k)
    go its_end p k = rw (p, block) (none_kept (e ∷ past))
    go elsewhere p k = rw (p, block) (left k)

-- ---- the serial list

-- new hulls, questions that are kept, and accepted saves: each has a place of its own
unfoldable pub has_place : (Ask → Bool) → Event → Bool
has_place keeps (new_hull t ⇒ r) = true
has_place keeps (open_hull d h ⇒ r) = false
has_place keeps (work d w ⇒ r) = false
has_place keeps (save d ⇒ r) = accepted r
has_place keeps (drop_draft d ⇒ r) = false
has_place keeps (ask h q ⇒ r) = keeps q

unfoldable pub placed : (Ask → Bool) → List Event → List Event
placed keeps [] = []
placed keeps (e ∷ es) = cond (has_place keeps e) (e ∷ placed keeps es) (placed keeps es)

module _ (keeps : Ask → Bool) where
  placed_append : (a b : List Event) → placed keeps (a ++ b) ≡ placed keeps a ++ placed keeps b
  unfolding placed
  placed_append [] b = refl
  placed_append (e ∷ a) b =
      let h = placed_append a b in by_test (has_place keeps e) (λ t. rw (t, h)) (λ t. rw (t, h))

  -- the calls of a block have no place of their own
  unplaced : {d : ℕ} {e : Event} {s : Role} (past : List Event)
      → Known d e s
      → role d e ≡ s
      → placed keeps (block d past) ≡ []
      → placed keeps (block d (e ∷ past)) ≡ []
  unfolding placed has_place block
  unplaced past (an_open a) p n = rw (p, block)
  unplaced past some_work p n = rw (p, block) n
  unplaced past (vain_save a) p n = rw (p, block, a) n
  unplaced past an_end p n = rw (p, block)
  unplaced past (another e s c) p n = rw (p, block) n

  block_none : (d : ℕ) (past : List Event) → placed keeps (block d past) ≡ []
  unfolding placed block
  block_none d [] = refl
  block_none d (e ∷ past) = unplaced past (known d e) refl (block_none d past)

  -- Every call kept is at its own place, and every block at its save's place.
  pub places_kept : (past : List Event) → placed keeps (serial keeps past) ≡ placed keeps past
  unfolding placed has_place serial spot
  places_kept [] = refl
  places_kept ((new_hull t ⇒ r) ∷ past) = ap (λ (es : List Event). (new_hull t ⇒ r) ∷ es) (places_kept past)
  places_kept ((open_hull d h ⇒ r) ∷ past) = places_kept past
  places_kept ((work d w ⇒ r) ∷ past) = places_kept past
  places_kept ((save d ⇒ r) ∷ past) =
      let h = places_kept past in
      by_test (accepted r)
      (λ e. rw (e, serial) (rw (e, placed_append (block d past) (serial keeps past), block_none d past, h)))
      (λ e. rw (e, serial) h)
  places_kept ((drop_draft d ⇒ r) ∷ past) = places_kept past
  places_kept ((ask h q ⇒ r) ∷ past) =
      let i = places_kept past in by_test (keeps q) (λ e. rw (e, serial) (rw (e, i))) (λ e. rw (e, serial) i)
