-- What each call does to the register as the office would draw it, and a run of calls.
use Prim.Native.Nat.{ℕ, suc}
use mathlib.Core.Bool.{cond}
use mathlib.Core.List.{List, [], ◌∷◌}
use mathlib.Core.Option.{Option, none, some}
use lib.Dec.{eqb, ltb}
use Rattle.form.specs.Outcome.{right, wrong}
use Rattle.sheet.specs.SheetText.{read_sheet}
use Rattle.answers.specs.Refusals.{full, no_hull, no_desk, no_draft, edited_since, edits_spent}
use Rattle.answers.specs.Answer.{RefusedAt, Done, Count}
use Rattle.memory.specs.Layout.{most_hulls, desks, hull_sheet}
use Rattle.memory.specs.Formed.{most_edits}
use Rattle.memory.specs.Updates.{fresh_words}
use Rattle.register.specs.Calls.{Call, new_hull, open_hull, work, save, drop_draft, ask}
use Rattle.history.specs.Runs.{Event, ◌⇒◌}
use Rattle.history.proofs.Model.{Draft, State, Outcome, work_says, ask_says, refuse, gives, at_desk, after_entry}
use Rattle.history.proofs.Model.{opens, edited, after_save, edits_of}

-- ---- a call

abbrev on_draft : State → Call → (Draft → Outcome) → Option Draft → Outcome
on_draft s c f none = refuse s c no_draft
on_draft s c f (some x) = f x

-- a call on the draft that desk d holds
abbrev pub on_desk : State → ℕ → Call → (Draft → Outcome) → Outcome
on_desk s d c f = cond (ltb d desks) (on_draft s c f (s.draft d)) (refuse s c no_desk)

abbrev pub save_of : State → ℕ → Draft → Outcome
save_of s d x =
    cond (eqb (edits_of s x) x.opening)
    (cond (eqb (edits_of s x) most_edits) (refuse s (save d) edits_spent)
    (gives (after_save s d x) (Count (suc (edits_of s x)))))
    (refuse s (save d) edited_since)

unfoldable pub step : State → Call → Outcome
step s (new_hull t) =
    cond (ltb s.register.entered most_hulls)
    (elim (read_sheet t) [
      | right r ↦ gives (after_entry s t) (Count s.register.entered)
      | wrong n line byte ↦ gives s (RefusedAt n line byte)
    ])
    (refuse s (new_hull t) full)
step s (open_hull d h) =
    cond (ltb d desks)
    (cond (ltb h s.register.entered)
    (gives (at_desk s d (some (opens s.register h))) (Count (s.register.hull h).edits))
    (refuse s (open_hull d h) no_hull))
    (refuse s (open_hull d h) no_desk)
step s (work d w) =
    on_desk s d (work d w)
    (λ (x : Draft). record { state = at_desk s d (some (edited w x)); reply = work_says w x.sheet })
step s (save d) = on_desk s d (save d) (save_of s d)
step s (drop_draft d) = on_desk s d (drop_draft d) (λ (x : Draft). gives (at_desk s d none) Done)
step s (ask h q) =
    cond (ltb h s.register.entered)
    (record { state = s; reply = ask_says h q (s.register.hull h).sheet })
    (refuse s (ask h q) no_hull)

-- ---- a run from fresh, newest first. The slots of hulls not entered are as fresh start leaves them.

unfoldable pub fresh : State
fresh =
    record {
      register = record { entered = 0; hull = λ (h : ℕ). record { sheet = hull_sheet fresh_words h; edits = 0 } };
      draft = λ (d : ℕ). none;
    }

unfoldable pub state_of : List Call → State
state_of [] = fresh
state_of (c ∷ cs) = (step (state_of cs) c).state

unfoldable pub events_of : List Call → List Event
events_of [] = []
events_of (c ∷ cs) = (c ⇒ (step (state_of cs) c).reply) ∷ events_of cs
