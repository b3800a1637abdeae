-- The state of a run is what its history tells: the edit numbers are counts of accepted saves, and the block of a desk,
-- redone on its hull's sheet at the opening, makes the desk's draft.
use Prim.Native.Nat.{ℕ, ◌≤◌}
use mathlib.Core.Path.{◌≡◌, refl, sym, ap}
use mathlib.Core.List.{List, [], ◌∷◌, map}
use mathlib.Core.Option.{Option, none, some}
use Rattle.register.specs.Calls.{Work, open_hull, work, save}
use Rattle.history.specs.Replies.{Reply}
use Rattle.history.specs.Runs.{Event, ◌⇒◌, call}
use Rattle.history.specs.History.{block}
use Rattle.history.specs.Told.{Opening, opening, saves_of, redo}
use Rattle.history.proofs.Tools.{none≢some, some_inj}
use Rattle.history.proofs.Model.{Draft, State, work_says, opens, edited}
use Rattle.history.proofs.ModelStep.{state_of}

-- ---- what is told

-- the sheet of a draft's hull when it was opened, and the draft after its block
abbrev sheet_at : Opening → List ℕ
sheet_at o = ((state_of (map call o.before)).register.hull o.hull).sheet

abbrev pub draft_of : List Event → Opening → Draft
draft_of b o = record { hull = o.hull; opening = saves_of o.hull o.before; sheet = redo b (sheet_at o) }

abbrev pub draft_from : List Event → Option Opening → Option Draft
draft_from b none = none
draft_from b (some o) = some (draft_of b o)

abbrev pub told_draft : ℕ → List Event → Option Draft
told_draft d past = draft_from (block d past) (opening d past)

pub record Tells (s : State) (past : List Event) : Type 0 where
  pub edits : (h : ℕ) → (s.register.hull h).edits ≡ saves_of h past
  pub drafts : (d : ℕ) → s.draft d ≡ told_draft d past
  pub unentered : (h : ℕ) → s.register.entered ≤ h → saves_of h past ≡ 0

-- ---- the opening behind a draft

pub record From (b : List Event) (O : Option Opening) (x : Draft) : Type 0 where
  pub from : Opening
  pub is : O ≡ some from
  pub draft : draft_of b from ≡ x

pub drawn : (b : List Event) (O : Option Opening) (x : Draft) → draft_from b O ≡ some x → From b O x
drawn b none x e = absurd (none≢some e)
drawn b (some o) x e = record { from = o; is = refl; draft = some_inj e }

pub drawn_none : (b : List Event) (O : Option Opening) → draft_from b O ≡ none → O ≡ none
drawn_none b none e = refl
drawn_none b (some o) e = absurd (none≢some (sym e))

-- a draft just opened, work on it, and a save that was refused
pub drawn_opened : (s : State) (past : List Event) (d h : ℕ) (r : Reply)
    → state_of (map call past) ≡ s
    → (s.register.hull h).edits ≡ saves_of h past
    → some (opens s.register h) ≡ draft_from ((open_hull d h ⇒ r) ∷ []) (some (record { hull = h; before = past }))
unfolding redo
drawn_opened s past d h r w e =
    let sheet : (s.register.hull h).sheet ≡ ((state_of (map call past)).register.hull h).sheet =
    ap (λ (t : State). (t.register.hull h).sheet) (sym w) in
    rw (e, sheet) refl

pub drawn_worked : (b : List Event) (O : Option Opening) (x : Draft) (d : ℕ) (w : Work)
    → draft_from b O ≡ some x
    → draft_from ((work d w ⇒ work_says w x.sheet) ∷ b) O ≡ some (edited w x)
unfolding redo
drawn_worked b none x d w e = absurd (none≢some e)
drawn_worked b (some o) x d w e = let u : draft_of b o ≡ x = some_inj e in rw (← u) refl

pub drawn_save : (b : List Event) (O : Option Opening) (d : ℕ) (r : Reply)
    → draft_from ((save d ⇒ r) ∷ b) O ≡ draft_from b O
unfolding redo
drawn_save b none d r = refl
drawn_save b (some o) d r = refl
