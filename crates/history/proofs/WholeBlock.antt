-- What a block is, of any list of events: where the desk holds a draft, it is the accepted open that made it and every
-- call on it since, with nothing left out.
use Prim.Native.Nat.{ℕ}
use mathlib.Core.Path.{◌≡◌, refl, ap, ◌∙◌}
use mathlib.Core.Bool.{Bool, true, false, cond, ◌&&◌}
use mathlib.Core.List.{List, [], ◌∷◌, ◌++◌}
use mathlib.Core.Option.{some}
use lib.Dec.{eqb}
use borrow.Author.Tests.{eqb-true}
use Rattle.ground.proofs.Booleans.{by_test}
use Rattle.register.specs.Calls.{Work, new_hull, open_hull, work, save, drop_draft, ask}
use Rattle.history.specs.Replies.{Reply, accepted}
use Rattle.history.specs.Runs.{Event, ◌⇒◌}
use Rattle.history.specs.History.{Role, its_open, its_call, its_end, elsewhere, role, block}
use Rattle.history.specs.Told.{Opening, opening}
use Rattle.history.proofs.Tools.{self, none≢some, some_inj}

-- the work and the saves of desk d among the events: with its drop, which ends it, these are the calls on a draft that
-- it holds
unfoldable pub calls_by : ℕ → List Event → List Event
calls_by d [] = []
calls_by d ((new_hull t ⇒ r) ∷ es) = calls_by d es
calls_by d ((open_hull g h ⇒ r) ∷ es) = calls_by d es
calls_by d ((work g w ⇒ r) ∷ es) = cond (eqb d g) ((work g w ⇒ r) ∷ calls_by d es) (calls_by d es)
calls_by d ((save g ⇒ r) ∷ es) = cond (eqb d g) ((save g ⇒ r) ∷ calls_by d es) (calls_by d es)
calls_by d ((drop_draft g ⇒ r) ∷ es) = calls_by d es
calls_by d ((ask h q ⇒ r) ∷ es) = calls_by d es

-- no open, save or drop of desk d among the events was accepted
unfoldable pub stays : ℕ → List Event → Bool
stays d [] = true
stays d ((new_hull t ⇒ r) ∷ es) = stays d es
stays d ((open_hull g h ⇒ r) ∷ es) = cond (eqb d g && accepted r) false (stays d es)
stays d ((work g w ⇒ r) ∷ es) = stays d es
stays d ((save g ⇒ r) ∷ es) = cond (eqb d g && accepted r) false (stays d es)
stays d ((drop_draft g ⇒ r) ∷ es) = cond (eqb d g && accepted r) false (stays d es)
stays d ((ask h q ⇒ r) ∷ es) = stays d es

-- ---- what is known of an event by its role

pub data Known (d : ℕ) : Event → Role → Type 0 where
  an_open : {h : ℕ} {r : Reply} → accepted r ≡ true → Known d (open_hull d h ⇒ r) its_open
  some_work : {w : Work} {r : Reply} → Known d (work d w ⇒ r) its_call
  vain_save : {r : Reply} → accepted r ≡ false → Known d (save d ⇒ r) its_call
  an_end : {e : Event} → Known d e its_end
  another : (e : Event)
      → ((es : List Event) → stays d (e ∷ es) ≡ stays d es)
      → ((es : List Event) → calls_by d (e ∷ es) ≡ calls_by d es)
      → Known d e elsewhere

pub known : (d : ℕ) (e : Event) → Known d e (role d e)
unfolding role calls_by stays
known d (new_hull t ⇒ r) = another (new_hull t ⇒ r) (λ es. refl) (λ es. refl)
known d (open_hull g h ⇒ r) =
    by_test (eqb d g)
    (λ p. by_test (accepted r) (λ q. rw (p, q, ← eqb-true d g p) (an_open q))
    (λ q. rw (p, q) (another (open_hull g h ⇒ r) (λ es. rw (p, q)) (λ es. refl))))
    (λ p. rw p (another (open_hull g h ⇒ r) (λ es. rw p) (λ es. refl)))
known d (work g w ⇒ r) =
    by_test (eqb d g) (λ p. rw (p, ← eqb-true d g p) some_work)
    (λ p. rw p (another (work g w ⇒ r) (λ es. refl) (λ es. rw p)))
known d (save g ⇒ r) =
    by_test (eqb d g)
    (λ p. by_test (accepted r) (λ q. rw (p, q) an_end) (λ q. rw (p, q, ← eqb-true d g p) (vain_save q)))
    (λ p. rw p (another (save g ⇒ r) (λ es. rw p) (λ es. rw p)))
known d (drop_draft g ⇒ r) =
    by_test (eqb d g)
    (λ p. by_test (accepted r) (λ q. rw (p, q) an_end)
    (λ q. rw (p, q) (another (drop_draft g ⇒ r) (λ es. rw (p, q)) (λ es. refl))))
    (λ p. rw p (another (drop_draft g ⇒ r) (λ es. rw p) (λ es. refl)))
known d (ask h q ⇒ r) = another (ask h q ⇒ r) (λ es. refl) (λ es. refl)

-- ---- the whole block

-- b is the block of the draft that desk d opened as o says: past is what came since, the accepted open, and what was
-- before
pub record Whole (d : ℕ) (past : List Event) (o : Opening) (b : List Event) : Type 0 where
  pub newer : List Event
  pub its_reply : Reply
  pub splits : past ≡ newer ++ ((open_hull d o.hull ⇒ its_reply) ∷ o.before)
  pub made_it : accepted its_reply ≡ true
  pub held_since : stays d newer ≡ true
  pub is : b ≡ calls_by d newer ++ ((open_hull d o.hull ⇒ its_reply) ∷ [])

-- one event more, of which the block takes what the desk's calls take
longer : {d : ℕ} {past : List Event} {o : Opening} {b c : List Event} (e : Event) (w : Whole d past o b)
    → stays d (e ∷ w.newer) ≡ stays d w.newer
    → c ≡ calls_by d (e ∷ w.newer) ++ ((open_hull d o.hull ⇒ w.its_reply) ∷ [])
    → Whole d (e ∷ past) o c
longer e w s c =
    record {
      newer = e ∷ w.newer;
      its_reply = w.its_reply;
      splits = ap (λ (es : List Event). e ∷ es) w.splits;
      made_it = w.made_it;
      held_since = s ∙ w.held_since;
      is = c;
    }

whole_step : {d : ℕ} {e : Event} {s : Role} (past : List Event) (o : Opening)
    → Known d e s
    → role d e ≡ s
    → opening d (e ∷ past) ≡ some o
    → (opening d past ≡ some o → Whole d past o (block d past)) → Whole d (e ∷ past) o (block d (e ∷ past))
unfolding block opening calls_by stays
whole_step past o (an_open {h} {r} a) p q f =
    let u : ◌≡◌ {A = Opening} (record { hull = h; before = past }) o = some_inj (rw (p, opening) at q) in
    rw (p, block, ← u) (record { newer = []; its_reply = r; splits = refl; made_it = a; held_since = refl; is = refl })
whole_step {d} past o (some_work {w = x} {r}) p q f =
    let w = f (rw (p, opening) at q) in rw (p, block) (longer (work d x ⇒ r) w refl (rw (self, ← w.is)))
whole_step {d} past o (vain_save {r} a) p q f =
    let w = f (rw (p, opening) at q) in rw (p, block) (longer (save d ⇒ r) w (rw (self, a)) (rw (self, ← w.is)))
whole_step past o an_end p q f = absurd (none≢some (rw (p, opening) at q))
whole_step past o (another e s c) p q f =
    let w = f (rw (p, opening) at q) in rw (p, block) (longer e w (s w.newer) (rw (c w.newer) w.is))

-- Where the history says that the desk holds a draft, its block is the draft's own open and every call on the draft
-- since.
pub block_whole : (d : ℕ) (past : List Event) (o : Opening) → opening d past ≡ some o → Whole d past o (block d past)
unfolding opening
block_whole d [] o q = absurd (none≢some q)
block_whole d (e ∷ past) o q = whole_step past o (known d e) refl q (block_whole d past o)

-- ---- saves in a block

-- no call of the block is a save
unfoldable pub saveless : List Event → Bool
saveless [] = true
saveless ((new_hull t ⇒ r) ∷ b) = saveless b
saveless ((open_hull d h ⇒ r) ∷ b) = saveless b
saveless ((work d w ⇒ r) ∷ b) = saveless b
saveless ((save d ⇒ r) ∷ b) = false
saveless ((drop_draft d ⇒ r) ∷ b) = saveless b
saveless ((ask h q ⇒ r) ∷ b) = saveless b
