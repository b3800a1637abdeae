-- FIT rows and the fitting lines of a sheet: the lines as rows are those lines, and rows as lines are those rows with
-- their counts.
use mathlib.Core.Path.{◌≡◌, refl, sym, ap, ◌∙◌}
use mathlib.Core.Bool.{Bool, true, false}
use mathlib.Core.List.{List, [], ◌∷◌, ◌++◌, append-nil}
use Prim.Native.Nat.{ℕ, zero, suc, ◌+◌, ◌-◌, ◌*◌, ◌≤◌, max}
use native.Mathlib.Nat.{add-zero}
use native.Mathlib.Omega.{arith}
use borrow.Author.Tests.{ne_eqb, eqb-true}
use lib.Dec.{eqb}
use lib.ListN.{length}
use Rattle.ground.proofs.Booleans.{both_hold, both_true, false_true, by_test}
use Rattle.form.specs.Parts.{Rows, next_after}
use Rattle.form.specs.Writing.{row_ok, rows_ok}
use Rattle.sheet.specs.Lines.{fittings}
use Rattle.sheet.specs.Sheet.{fit_ok, fits_ok}
use Rattle.sheet.specs.SheetText.{fit_part, fit_number, fit_weight, fit_count, empty_lines, fits_from, fit_row, fit_rows}
use Rattle.sheet.proofs.FitRow.{empty_count, fitted}

-- ---- an empty line has no row, and a fitting has one

module _ (n w c : ℕ) (s : List ℕ) where
  -- by whether there is none
  rows_by : Bool → Rows
  rows_by u = elim u [ true ↦ fit_rows (suc n) s | false ↦ fit_row n w c ∷ fit_rows (suc n) s ]

  pub row_none : eqb w 0 ≡ true → fit_rows n (w ∷ c ∷ s) ≡ fit_rows (suc n) s
  unfolding fit_rows rows_by
  row_none e = ap rows_by e

  pub row_some : eqb w 0 ≡ false → fit_rows n (w ∷ c ∷ s) ≡ fit_row n w c ∷ fit_rows (suc n) s
  unfolding fit_rows rows_by
  row_some e = ap rows_by e

-- ---- so many lines

pub fits_length : (k : ℕ) (s : List ℕ) → fits_ok k s ≡ true → length s ≡ 2 * k
unfolding fits_ok
fits_length zero [] h = refl
fits_length zero (w ∷ s) h = false_true h
fits_length (suc k) [] h = false_true h
fits_length (suc k) (w ∷ []) h = false_true h
fits_length (suc k) (w ∷ c ∷ s) h =
    omega (arith, fits_length k s (both_hold _ (fits_ok k s) h).1)

pub fits_append : (j k : ℕ) (s u : List ℕ) → fits_ok j s ≡ true → fits_ok k u ≡ true → fits_ok (j + k) (s ++ u) ≡ true
unfolding fits_ok
fits_append zero k [] u a b = let z : 0 + k ≡ k = omega arith in rw z b
fits_append zero k (w ∷ s) u a b = false_true a
fits_append (suc j) k [] u a b = false_true a
fits_append (suc j) k (w ∷ []) u a b = false_true a
fits_append (suc j) k (w ∷ c ∷ s) u a b =
    let p = both_hold (fit_ok w c) (fits_ok j s) a in
    let z : suc j + k ≡ suc (j + k) = omega arith in
    rw z (both_true p.0 (fits_append j k s u p.1 b))

pub empty_fits : (k : ℕ) → fits_ok k (empty_lines k) ≡ true
unfolding fits_ok empty_lines
empty_fits zero = refl
empty_fits (suc k) = empty_fits k

-- ---- from lines to rows and back

empty_snoc : (j : ℕ) (s : List ℕ) → empty_lines (suc j) ++ s ≡ empty_lines j ++ (0 ∷ 0 ∷ s)
unfolding empty_lines
empty_snoc zero s = refl
empty_snoc (suc j) s = ap (λ (l : List ℕ). 0 ∷ 0 ∷ l) (empty_snoc j s)

fits_from_lem : (k : ℕ) (s : List ℕ) (low n : ℕ) → fits_ok k s ≡ true → low ≤ n → n + k ≡ suc fittings
    → fits_from low (fit_rows n s) ≡ empty_lines (n - low) ++ s
unfolding fits_ok fits_from fit_rows empty_lines
fits_from_lem zero [] low n h a b =
    let e : suc fittings - low ≡ n - low = omega arith in
    rw (append-nil (empty_lines (n - low))) (ap empty_lines e)
fits_from_lem zero (w ∷ s) low n h a b = false_true h
fits_from_lem (suc k) [] low n h a b = false_true h
fits_from_lem (suc k) (w ∷ []) low n h a b = false_true h
fits_from_lem (suc k) (w ∷ c ∷ s) low n h a b =
    let p = both_hold (fit_ok w c) (fits_ok k s) h in
    let skip = fits_from_lem k s low (suc n) p.1 (omega arith) (omega arith) in
    let take = fits_from_lem k s (suc n) (suc n) p.1 (omega arith) (omega arith) in
    by_test (eqb w 0)
    (λ e.
    let z : w ≡ 0 = eqb-true w 0 e in
    let y : c ≡ 0 = empty_count c (rw z at p.0) in
    let m : suc n - low ≡ suc (n - low) = omega arith in
    rw (row_none n w c s e, z, y) (skip ∙ rw m (empty_snoc (n - low) s)))
    (λ e.
    let z : suc n - suc n ≡ 0 = omega arith in
    let t : fits_from (suc n) (fit_rows (suc n) s) ≡ s = take ∙ rw (z, empty_lines) in
    rw (row_some n w c s e) (ap (λ (x : List ℕ). empty_lines (n - low) ++ (w ∷ c ∷ x)) t))

-- the 24 lines, as rows, are those lines
pub fits_rows : (s : List ℕ) → fits_ok fittings s ≡ true → fits_from 1 (fit_rows 1 s) ≡ s
unfolding empty_lines
fits_rows s h = fits_from_lem fittings s 1 1 h (omega arith) (omega arith)

-- ---- from rows to lines and back

-- rows with their counts
unfoldable pub counted_rows : Rows → Rows
counted_rows [] = []
counted_rows (r ∷ rs) = fit_row (fit_number r) (fit_weight r) (fit_count r) ∷ counted_rows rs

empty_rows : (j n : ℕ) (s : List ℕ) → fit_rows n (empty_lines j ++ s) ≡ fit_rows (n + j) s
unfolding empty_lines
empty_rows zero n s = rw (add-zero n)
empty_rows (suc j) n s =
    let e : n + suc j ≡ suc n + j = omega arith in
    rw e (row_none n 0 0 (empty_lines j ++ s) refl ∙ empty_rows j (suc n) s)

rows_from_lem : (rs : Rows) (next n : ℕ) → max 1 next ≡ n → rows_ok fit_part next rs ≡ true
    → fit_rows n (fits_from n rs) ≡ counted_rows rs
unfolding fits_from rows_ok fit_rows counted_rows
rows_from_lem [] next n m h =
    ap (fit_rows n) (sym (append-nil (empty_lines (suc fittings - n)))) ∙ empty_rows (suc fittings - n) n []
rows_from_lem (r ∷ rs) next n m h =
    let hs = both_hold (row_ok fit_part next r) (rows_ok fit_part (next_after r) rs) h in
    let f = fitted next n r m hs.0 in
    let ih = rows_from_lem rs (next_after r) (next_after r) (omega arith) hs.1 in
    let e : n + (fit_number r - n) ≡ fit_number r = omega (arith, f.n_low) in
    let s : List ℕ = fits_from (suc (fit_number r)) rs in
    let there = ne_eqb (fit_weight r) 0 (λ z. omega (arith, f.pieces.some)) in
    let some = row_some (fit_number r) (fit_weight r) (fit_count r) s there in
    empty_rows (fit_number r - n) n (fit_weight r ∷ fit_count r ∷ s) ∙ rw e (some ∙ rw ih)

-- FIT rows that may stand, as lines, are those rows with their counts
pub rows_fits : (rs : Rows) → rows_ok fit_part 0 rs ≡ true → fit_rows 1 (fits_from 1 rs) ≡ counted_rows rs
rows_fits rs h = rows_from_lem rs 0 1 refl h
