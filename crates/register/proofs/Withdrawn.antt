-- 02 (ix): put and take off, the calls that were withdrawn, as they were; their changes move the boat's weight, as
-- 02 (vii), which names them still, asks of both. What each did, setting the line does, in
-- every memory, refusals and all: put of anything but weight 0 with count 0, which it refused, and take off of every
-- line.
use mathlib.Core.Path.{◌≡◌, refl}
use mathlib.Core.Bool.{false, ◌&&◌, cond}
use mathlib.Core.List.{List, [], ◌∷◌}
use Prim.Native.Nat.{ℕ}
use borrow.Author.Tests.{eqb-true}
use lib.Dec.{eqb, leb}
use lib.ListN.{get_or}
use Rattle.ground.proofs.Booleans.{by_test, first_fails, second_fails}
use Rattle.text.specs.Limit.{all_hold}
use Rattle.answers.specs.Refusals.{outside_limits, empty_line}
use Rattle.answers.specs.Answer.{Answer}
use Rattle.answers.specs.Answer.{Done}
use Rattle.sheet.specs.Lines.{fittings, fit_line}
use Rattle.sheet.specs.Places.{fitting_word}
use Rattle.sheet.specs.Sheet.{no_fitting}
use Rattle.memory.specs.Layout.{draft_sheet}
use Rattle.memory.specs.Updates.{fitted}
use Rattle.register.specs.Refusals.{desk_refusal, set_own, or_refused, leaves}
use Rattle.register.specs.Calls.{set_fitting, work, Step, step}

-- ---- as they were

-- a fitting's line, weight and count; a line
pub data Withdrawn : Type 0 where
  put : ℕ → ℕ → ℕ → Withdrawn
  take_off : ℕ → Withdrawn

-- put: line, weight and count are held to the limits of a FIT line
abbrev pub put_own : ℕ → ℕ → ℕ → ℕ
put_own line weight count = cond (all_hold fit_line.limits 0 (line ∷ weight ∷ count ∷ [])) 0 outside_limits

-- take off: the line, and then that it is not empty on the sheet s
abbrev pub take_own : List ℕ → ℕ → ℕ
take_own s line =
    cond (leb 1 line && leb line fittings) (cond (eqb (get_or s (fitting_word line) 0) 0) empty_line 0) outside_limits

abbrev pub old_answer : Withdrawn → List ℕ → Answer
old_answer (put line weight count) s = or_refused (put_own line weight count) Done
old_answer (take_off line) s = or_refused (take_own s line) Done

abbrev pub old_makes : List ℕ → ℕ → Withdrawn → List ℕ
old_makes m d (put line weight count) = fitted m d line weight count
old_makes m d (take_off line) = fitted m d line 0 0

abbrev pub old_step : List ℕ → ℕ → Withdrawn → Step
old_step m d w =
    let a = or_refused (desk_refusal m d) (old_answer w (draft_sheet m d)) in
    record { answer = a; memory = leaves a (old_makes m d w) m; output = leaves a [] [] }

-- ---- and as it is

module _ (s : List ℕ) (line : ℕ) where
  put_own_lem : (weight count : ℕ) → no_fitting weight count ≡ false → set_own s line weight count ≡ put_own line weight count
  unfolding all_hold
  put_own_lem weight count n =
      rw n
      (by_test (leb 1 line)
      (λ e. rw e (by_test (leb line fittings) (λ f. rw f refl) (λ f. rw f refl)))
      (λ e. rw e refl))

  take_own_lem : set_own s line 0 0 ≡ take_own s line
  take_own_lem =
      by_test (leb 1 line)
      (λ e. rw e (by_test (leb line fittings) (λ f. rw f refl) (λ f. rw f refl)))
      (λ e. rw e refl)

some_fitting : (weight count : ℕ) → (weight ≡ 0 → count ≡ 0 → ⊥) → no_fitting weight count ≡ false
some_fitting weight count n =
    by_test (eqb weight 0)
    (λ e.
    by_test (eqb count 0) (λ f. absurd (n (eqb-true weight 0 e) (eqb-true count 0 f))) (second_fails (eqb weight 0)))
    (first_fails (eqb count 0))

module _ (m : List ℕ) (d line : ℕ) where
  pub put_stays : (weight count : ℕ)
      → (weight ≡ 0 → count ≡ 0 → ⊥)
      → step m (work d (set_fitting line weight count)) ≡ old_step m d (put line weight count)
  put_stays weight count n = rw (put_own_lem (draft_sheet m d) line weight count (some_fitting weight count n)) refl

  pub take_stays : step m (work d (set_fitting line 0 0)) ≡ old_step m d (take_off line)
  take_stays = rw (take_own_lem (draft_sheet m d) line) refl
