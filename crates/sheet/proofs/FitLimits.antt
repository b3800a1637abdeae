-- Fitting lines within the limits are FIT rows within theirs, and the other way round.
use mathlib.Core.Path.{◌≡◌, refl}
use mathlib.Core.Bool.{true}
use mathlib.Core.List.{List, [], ◌∷◌}
use Prim.Native.Nat.{ℕ, zero, suc, ◌+◌, ◌-◌, ◌≤◌, max}
use native.Mathlib.Omega.{arith}
use lib.Dec.{eqb}
use lib.ListN.{length}
use Rattle.ground.proofs.Booleans.{both_hold, both_true, false_true, by_test}
use Rattle.form.specs.Parts.{Rows, next_after}
use Rattle.form.specs.Writing.{row_ok, rows_ok}
use Rattle.sheet.specs.Lines.{fittings}
use Rattle.sheet.specs.Sheet.{fit_ok, fits_ok}
use Rattle.sheet.specs.SheetText.{fit_part, fit_number, fit_weight, fit_count, empty_lines, fits_from, fit_rows}
use Rattle.sheet.proofs.FitRow.{fit_pieces, pieces_fit, fitted, row_fits}
use Rattle.sheet.proofs.Fits.{row_none, row_some, fits_append, empty_fits}

-- no more rows than lines
pub fits_few : (k : ℕ) (n : ℕ) (s : List ℕ) → fits_ok k s ≡ true → length (fit_rows n s) ≤ k
unfolding fits_ok fit_rows
fits_few zero n [] h = omega arith
fits_few zero n (w ∷ s) h = false_true h
fits_few (suc k) n [] h = false_true h
fits_few (suc k) n (w ∷ []) h = false_true h
fits_few (suc k) n (w ∷ c ∷ s) h =
    let ih = fits_few k (suc n) s (both_hold (fit_ok w c) (fits_ok k s) h).1 in
    by_test (eqb w 0) (λ e. rw (row_none n w c s e) (omega arith)) (λ e. rw (row_some n w c s e) (omega arith))

-- the lines from n on
pub fits_ok_lem : (k : ℕ) (s : List ℕ) (next n : ℕ) → fits_ok k s ≡ true → next ≤ n → 1 ≤ n → n + k ≡ suc fittings
    → rows_ok fit_part next (fit_rows n s) ≡ true
unfolding fits_ok fit_rows rows_ok
fits_ok_lem zero [] next n h a b c = refl
fits_ok_lem zero (w ∷ s) next n h a b c = false_true h
fits_ok_lem (suc k) [] next n h a b c = false_true h
fits_ok_lem (suc k) (w ∷ []) next n h a b c = false_true h
fits_ok_lem (suc k) (w ∷ m ∷ s) next n h a b c =
    let p = both_hold (fit_ok w m) (fits_ok k s) h in
    by_test (eqb w 0)
    (λ e. rw (row_none n w m s e) (fits_ok_lem k s next (suc n) p.1 (omega arith) (omega arith) (omega arith)))
    (λ e.
    let f = row_fits next n w m a b (omega arith) (fit_pieces w m e p.0) in
    rw (row_some n w m s e, f) (fits_ok_lem k s (suc n) (suc n) p.1 (omega arith) (omega arith) (omega arith)))

more_fit : (w c k : ℕ) (s : List ℕ) → fit_ok w c ≡ true → fits_ok k s ≡ true → fits_ok (suc k) (w ∷ c ∷ s) ≡ true
unfolding fits_ok
more_fit w c k s a b = both_true a b

pub fits_held : (rs : Rows) (next n : ℕ) → max 1 next ≡ n → n ≤ suc fittings → rows_ok fit_part next rs ≡ true
    → fits_ok (suc fittings - n) (fits_from n rs) ≡ true
unfolding fits_from rows_ok
fits_held [] next n a b h = empty_fits (suc fittings - n)
fits_held (r ∷ rs) next n a b h =
    let hs = both_hold (row_ok fit_part next r) (rows_ok fit_part (next_after r) rs) h in
    let f = fitted next n r a hs.0 in
    let ih = fits_held rs (next_after r) (next_after r) (omega arith) (omega (arith, f.n_high)) hs.1 in
    let gap : ℕ = fit_number r - n in
    let left : ℕ = suc fittings - suc (fit_number r) in
    let k : suc fittings - n ≡ gap + suc left = omega (arith, f.n_low, f.n_high) in
    let s : List ℕ = fits_from (suc (fit_number r)) rs in
    rw k
    (fits_append gap (suc left) (empty_lines gap) (fit_weight r ∷ fit_count r ∷ s) (empty_fits gap)
    (more_fit (fit_weight r) (fit_count r) left s (pieces_fit (fit_weight r) (fit_count r) f.pieces) ih))
