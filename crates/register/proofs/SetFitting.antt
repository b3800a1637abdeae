-- 02 (ix), what setting a fitting line does at a desk that holds a draft, by its numbers. What no line may be set to is
-- refused with 3, whatever the draft has; then emptying a line that is empty, with 17; all else is done, on a full line
-- as on an empty one.
use mathlib.Core.Path.{◌≡◌, refl, sym, ◌∙◌}
use mathlib.Core.Bool.{true, true≢false}
use mathlib.Core.Logic.{◌⊎◌, inl, inr}
use mathlib.Core.List.{List, []}
use Prim.Native.Nat.{ℕ, ◌≤◌}
use native.Mathlib.Omega.{arith}
use borrow.Author.Tests.{le-leb, eqb-true}
use lib.Dec.{eqb}
use Rattle.ground.proofs.Booleans.{both_true, by_test}
use Rattle.answers.specs.Refusals.{outside_limits, empty_line}
use Rattle.answers.specs.Answer.{Refused, Done}
use Rattle.sheet.specs.Lines.{fittings}
use Rattle.sheet.specs.Sheet.{fit_ok}
use Rattle.sheet.proofs.FitRow.{Pieces, fit_pieces, pieces_fit, empty_count}
use Rattle.memory.specs.Layout.{draft_sheet, fitting}
use Rattle.memory.specs.Updates.{fitted}
use Rattle.register.specs.Refusals.{desk_refusal, set_own, or_refused, leaves}
use Rattle.register.specs.Calls.{set_fitting, work, Step, step}
use Rattle.register.proofs.Own.{line_word, within, within_fits, set_filled, set_empty, set_emptied}

-- ---- what a line may be set to: nothing, or pieces within the limits of a FIT line

pub record Settable (line weight count : ℕ) : Type 0 where
  pub low : 1 ≤ line
  pub high : line ≤ fittings
  pub has : ((weight ≡ 0) × (count ≡ 0)) ⊎ Pieces weight count

has_fits : (weight count : ℕ) → ((weight ≡ 0) × (count ≡ 0)) ⊎ Pieces weight count → fit_ok weight count ≡ true
has_fits weight count (inl z) = rw (z.0, z.1) refl
has_fits weight count (inr p) = pieces_fit weight count p

fits_has : (weight count : ℕ) → fit_ok weight count ≡ true → ((weight ≡ 0) × (count ≡ 0)) ⊎ Pieces weight count
fits_has weight count h =
    by_test (eqb weight 0)
    (λ e. let z = eqb-true weight 0 e in inl (z, empty_count count (rw z at h)))
    (λ e. inr (fit_pieces weight count e h))

module _ (line weight count : ℕ) where
  within_settable : within line weight count ≡ true → Settable line weight count
  within_settable h =
      let p = within_fits line weight count h in
      record { low = p.low; high = p.high; has = fits_has weight count p.fits }

  settable_within : Settable line weight count → within line weight count ≡ true
  settable_within s =
      both_true (le-leb 1 line s.low) (both_true (le-leb line fittings s.high) (has_fits weight count s.has))

  -- so the cases below are all that there are
  pub settable_or_not : Settable line weight count ⊎ (Settable line weight count → ⊥)
  settable_or_not =
      by_test (within line weight count) (λ h. inl (within_settable h))
      (λ h. inr (λ s. absurd (true≢false (sym (settable_within s) ∙ h))))

-- ---- the step

-- refused, with all as it was; done, and the memory is so
abbrev pub refusing : ℕ → List ℕ → Step
refusing number m = record { answer = Refused number; memory = m; output = [] }

abbrev pub making : List ℕ → Step
making m = record { answer = Done; memory = m; output = [] }

module _ (m : List ℕ) (d : ℕ) (z : desk_refusal m d ≡ 0) (line : ℕ) where
  -- by the number that its own check gives
  settled : (weight count number : ℕ)
      → number ≡ set_own (draft_sheet m d) line weight count
      → step m (work d (set_fitting line weight count))
      ≡ (let a = or_refused number Done in
      record { answer = a; memory = leaves a (fitted m d line weight count) m; output = leaves a [] [] })
  settled weight count number e = rw (z, ← e) refl

  pub outside_first : (weight count : ℕ)
      → (Settable line weight count → ⊥)
      → step m (work d (set_fitting line weight count)) ≡ refusing outside_limits m
  outside_first weight count n =
      by_test (within line weight count) (λ h. absurd (n (within_settable line weight count h)))
      (λ h. settled weight count outside_limits (rw h refl))

  module _ (low : 1 ≤ line) (high : line ≤ fittings) where
    pub empty_then : fitting m d line ≡ 0 → step m (work d (set_fitting line 0 0)) ≡ refusing empty_line m
    empty_then e =
        settled 0 0 empty_line
        (set_empty (draft_sheet m d) line 0 0 low high refl (sym (line_word m d line high)) refl refl e)

    pub full_emptied : (fitting m d line ≡ 0 → ⊥)
        → step m (work d (set_fitting line 0 0)) ≡ making (fitted m d line 0 0)
    full_emptied n =
        settled 0 0 0 (set_emptied (draft_sheet m d) line 0 0 low high refl (sym (line_word m d line high)) refl refl n)

    pub any_set : (weight count : ℕ)
        → Pieces weight count
        → step m (work d (set_fitting line weight count)) ≡ making (fitted m d line weight count)
    any_set weight count p =
        let some = p.some in
        settled weight count 0
        (set_filled (draft_sheet m d) line weight count low high (sym (pieces_fit weight count p)) refl
        (λ e. omega arith))

  -- just one of the two is 0, on any line
  pub weight_alone : (weight : ℕ)
      → (weight ≡ 0 → ⊥)
      → step m (work d (set_fitting line weight 0)) ≡ refusing outside_limits m
  weight_alone weight n =
      outside_first weight 0 (λ s. elim s.has [ inl q ↦ n q.0 | inr p ↦ omega (arith, p.counted.least) ])

  pub count_alone : (count : ℕ)
      → (count ≡ 0 → ⊥)
      → step m (work d (set_fitting line 0 count)) ≡ refusing outside_limits m
  count_alone count n =
      outside_first 0 count (λ s. elim s.has [ inl q ↦ n q.1 | inr p ↦ omega (arith, p.some) ])
