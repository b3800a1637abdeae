-- What a history tells by itself, with no memory in sight: the draft that a desk holds, the accepted saves of a hull,
-- and the sheet that work makes of a sheet. 01, Calls on the register. Histories are newest first.
use Rattle.std.specs.Prelude.{ℕ, suc, Bool, true, false, ◌&&◌, cond, List, [], ◌∷◌, eqb}
use Rattle.std.proofs.Math.Option.{Option, none, some}
use Rattle.std.proofs.lemmas.List.Edits.{sets}
use Rattle.sheet.specs.Places.{fitting_word}
use Rattle.register.specs.Refusals.{sheet_of}
use Rattle.register.specs.Calls.{Work, set_fitting, replace, try_plate, new_hull, open_hull, work, save, drop_draft, ask}
use Rattle.history.specs.Replies.{accepted}
use Rattle.history.specs.Runs.{Event, ◌⇒◌}
use Rattle.history.specs.History.{its_open, its_call, its_end, elsewhere, role}

-- ---- drafts and saves

-- the hull that an open names; 0 for any other call
abbrev hull_of : Event → ℕ
hull_of (new_hull t ⇒ r) = 0
hull_of (open_hull d h ⇒ r) = h
hull_of (work d w ⇒ r) = 0
hull_of (save d ⇒ r) = 0
hull_of (drop_draft d ⇒ r) = 0
hull_of (ask h q ⇒ r) = 0

-- how desk d's draft was opened: which hull, and what had happened by then; a desk that holds no draft has none
pub record Opening : Type 0 where
  pub hull : ℕ
  pub before : List Event

unfoldable pub opening : ℕ → List Event → Option Opening
opening d [] = none
opening d (e ∷ past) =
    elim (role d e) [
      | its_open ↦ some (record { hull = hull_of e; before = past })
      | its_call ↦ opening d past
      | its_end ↦ none
      | elsewhere ↦ opening d past
    ]

-- whether a draft that was opened so, or none, is of hull h
abbrev is_of : ℕ → Option Opening → Bool
is_of h none = false
is_of h (some o) = eqb h o.hull

-- whether the event is an accepted save of hull h, after that past
unfoldable pub is_save_of : ℕ → Event → List Event → Bool
is_save_of h (new_hull t ⇒ r) past = false
is_save_of h (open_hull d k ⇒ r) past = false
is_save_of h (work d w ⇒ r) past = false
is_save_of h (save d ⇒ r) past = accepted r && is_of h (opening d past)
is_save_of h (drop_draft d ⇒ r) past = false
is_save_of h (ask k q ⇒ r) past = false

-- the accepted saves of hull h, counted
unfoldable pub saves_of : ℕ → List Event → ℕ
saves_of h [] = 0
saves_of h (e ∷ past) = cond (is_save_of h e past) (suc (saves_of h past)) (saves_of h past)

-- whether hull h has had no accepted save since desk d's last accepted open
unfoldable pub quiet_since : ℕ → ℕ → List Event → Bool
quiet_since d h [] = true
quiet_since d h (e ∷ past) =
    let quiet = cond (is_save_of h e past) false (quiet_since d h past) in
    elim (role d e) [ its_open ↦ true | its_call ↦ quiet | its_end ↦ quiet | elsewhere ↦ quiet ]

-- ---- sheets

-- the sheet s after a piece of work that was accepted
abbrev pub worked : Work → List ℕ → List ℕ
worked (set_fitting line weight count) s = sets s (fitting_word line) (weight ∷ count ∷ [])
worked (replace t) s = sheet_of t
worked (try_plate k) s = s

-- the sheet s after an event: accepted work is done on it, and nothing else changes it
abbrev did : Event → List ℕ → List ℕ
did (new_hull t ⇒ r) s = s
did (open_hull d h ⇒ r) s = s
did (work d w ⇒ r) s = cond (accepted r) (worked w s) s
did (save d ⇒ r) s = s
did (drop_draft d ⇒ r) s = s
did (ask h q ⇒ r) s = s

-- the sheet s after the work of a block, oldest first
unfoldable pub redo : List Event → List ℕ → List ℕ
redo [] s = s
redo (e ∷ b) s = did e (redo b s)
