-- Work on a draft, every kind by one law: an accepted piece of work changes the draft's sheet as `worked` says and
-- nothing else, a refused one changes nothing.
use Prim.Native.Nat.{ℕ}
use mathlib.Core.Path.{◌≡◌, refl, ap, ◌∙◌}
use mathlib.Core.Bool.{true, false, true≢false}
use mathlib.Core.List.{List, []}
use mathlib.Core.Option.{some}
use borrow.Author.Tests.{ne_eqb}
use Rattle.ground.proofs.Booleans.{by_test}
use Rattle.form.specs.Outcome.{Verdict, right, wrong}
use Rattle.answers.specs.Answer.{Done}
use Rattle.answers.specs.Values.{is_refusal}
use Rattle.sheet.specs.SheetText.{read_sheet}
use Rattle.capacity.specs.Weights.{boat_m}
use Rattle.memory.specs.Layout.{draft_weight, draft_sheet}
use Rattle.memory.specs.Updates.{moved}
use Rattle.memory.specs.Formed.{formed}
use Rattle.memory.proofs.Sound.{sound}
use Rattle.memory.proofs.OneSlot.{ButDesk, SheetChanges}
use Rattle.register.specs.Refusals.{desk_refusal, set_own, sheet_of, on_text}
use Rattle.register.specs.Calls.{Work, Call, set_fitting, replace, try_plate, work, work_answer, work_makes, step}
use Rattle.register.proofs.Refusals.{desk_goes}
use Rattle.register.proofs.Effects.{leaves_same, refused_leaves, set_changes, replace_changes}
use Rattle.history.specs.Replies.{reply, next}
use Rattle.history.specs.Told.{worked}
use Rattle.history.proofs.Moves.{no_refusal}
use Rattle.history.proofs.Model.{Draft, State, work_says, at_desk, edited}
use Rattle.history.proofs.Shown.{Shows, Holds, desk_shows}
use Rattle.history.proofs.CallsShown.{Tied, done}

-- ---- a text that accepted work has read

on_read : {P : Type 0} (t : List ℕ)
    → is_refusal (on_text t Done) ≡ false
    → ((s : List ℕ) → read_sheet t ≡ right s → P)
    → P
on_read {P} t e f = go (read_sheet t) refl
  where
    go : (r : Verdict (List ℕ)) → read_sheet t ≡ r → P
    go (right s) q = f s q
    go (wrong n line byte) q = absurd (true≢false (rw (q, on_text) at e))

-- ---- the memory

unchanged : (m : List ℕ) (d : ℕ) → formed m ≡ true → SheetChanges m m d (draft_weight m d) (draft_sheet m d)
unchanged m d ok = record { rest = but_none; holds = refl; hull = refl; number = refl; weight = refl; sheet = refl }
  where
    but_none : ButDesk m m d
    but_none =
        record {
          size = (sound m ok).size;
          counts = refl;
          hulls = λ i l. record { number = refl; weight = refl; sheet = refl };
          others = λ e l n. record { holds = refl; hull = refl; opened = refl; weight = refl; sheet = refl };
        }

-- what the boat weighs after it
abbrev weight_after : List ℕ → ℕ → Work → ℕ
weight_after m d (set_fitting line weight count) = moved m d line weight count
weight_after m d (replace t) = boat_m (sheet_of t)
weight_after m d (try_plate k) = draft_weight m d

module _ (m : List ℕ) (d : ℕ) (ok : formed m ≡ true) (z : desk_refusal m d ≡ 0) where
  work_changes : (w : Work) (v : ℕ)
      → is_refusal (work_answer w v (draft_sheet m d)) ≡ false
      → SheetChanges (work_makes m d w) m d (weight_after m d w) (worked w (draft_sheet m d))
  work_changes (set_fitting line weight count) v e =
      set_changes m d z line weight count (no_refusal (set_own (draft_sheet m d) line weight count) Done e)
  work_changes (replace t) v e = on_read t e (replace_changes m d z t)
  work_changes (try_plate k) v e = unchanged m d ok

-- ---- and the reply, which is the model's

module _ {m : List ℕ} {s : State} {d : ℕ} {x : Draft} (S : Shows m s) (H : Holds m d x) where
  drafted : {o : List ℕ} {v : ℕ} (f : List ℕ → List ℕ)
      → SheetChanges o m d v (f (draft_sheet m d))
      → formed o ≡ true
      → Shows o (at_desk s d (some (record { hull = x.hull; opening = x.opening; sheet = f x.sheet })))
  drafted f c ok =
      desk_shows S ok c.rest
      (rw (c.holds, c.hull, c.number, c.sheet, ne_eqb _ _ H.some, H.hull, H.number, H.sheet) refl)

  pub works : (w : Work)
      → desk_refusal m d ≡ 0
      → Tied (next m (work d w)) (reply m (work d w)) (at_desk s d (some (edited w x))) (work_says w x.sheet)
  unfolding next reply work_says
  works w z =
      let c : Call = work d w in
      let v : ℕ = boat_m x.sheet in
      let weight : draft_weight m d ≡ v = (desk_goes m d z).draft.sheet.weight_is ∙ ap boat_m H.sheet in
      let e : (step m c).answer ≡ work_answer w v x.sheet = rw (z, weight, H.sheet) refl in
      by_test (is_refusal (work_answer w v x.sheet))
      (λ f.
      rw f
      (record {
        shows = rw (refused_leaves m c (rw e f)).memory_kept (drafted (λ s. s) (unchanged m d S.ok) S.ok);
        replies = rw (leaves_same {A = List ℕ} (step m c).answer [], e) refl;
      }))
      (λ f. rw f (done S c _ e f (drafted (worked w) (work_changes m d S.ok z w v (rw H.sheet f)))))
