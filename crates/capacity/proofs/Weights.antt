-- Laws of F: it is what the fitting lines weigh, one after the other, each the weight of one piece times how many there
-- are; and what that comes to at most.
use mathlib.Core.Path.{◌≡◌, refl}
use mathlib.Core.Bool.{true}
use mathlib.Core.List.{List, [], ◌∷◌, ◌++◌}
use Prim.Native.Nat.{ℕ, zero, suc, ◌+◌, ◌*◌, ◌≤◌, ◌<◌}
use native.Mathlib.Omega.{arith}
use borrow.Author.Tests.{eqb-true}
use lib.Dec.{eqb}
use lib.ListN.{length, get_or, drop, length-drop, drop_of_length-le}
use lib.Seq.{get_or-drop}
use Rattle.ground.proofs.Booleans.{both_hold, false_true, by_test}
use Rattle.ground.proofs.Stores.{drop_more}
use Rattle.sheet.specs.Lines.{fittings, fitting_high}
use Rattle.sheet.specs.Sheet.{fit_ok, fits_ok}
use Rattle.sheet.specs.Places.{fittings_at, fitting_word, sheet_words}
use Rattle.sheet.proofs.FitRow.{fit_pieces}
use Rattle.sheet.proofs.Fits.{fits_length}
use Rattle.capacity.specs.Words.{fittings_of}
use Rattle.capacity.specs.Weights.{line_weight, added_up}
use Rattle.capacity.specs.Samples.{one_piece}
use Rattle.capacity.specs.Highs.{Fittings}

-- ---- the sum, one line after the other

-- what the pieces on the line at place k weigh, of weight and count in turn
abbrev pub pieces : List ℕ → ℕ → ℕ
pieces s k = get_or s (2 * k) 0 * get_or s (2 * k + 1) 0

pub sum_more : (s : List ℕ) (k : ℕ) → 2 * k + 1 < length s
    → added_up (drop (2 * k) s) ≡ pieces s k + added_up (drop (2 * (k + 1)) s)
unfolding added_up
sum_more s k h =
    let e : 2 * (k + 1) ≡ 2 * k + 1 + 1 = omega arith in
    rw (e, drop_more s (2 * k) (omega arith), drop_more s (2 * k + 1) h)

pub sum_end : (s : List ℕ) (k : ℕ) → length s ≤ 2 * k → added_up (drop (2 * k) s) ≡ 0
unfolding added_up
sum_end s k h = rw (drop_of_length-le s {i = 2 * k} h)

-- ---- by the lines of a sheet

-- what the pieces on the lines up to one weigh
unfoldable pub up_to_line : List ℕ → ℕ → ℕ
up_to_line s zero = 0
up_to_line s (suc k) = up_to_line s k + line_weight s (suc k)

pub line_pieces : (s : List ℕ) (k : ℕ) → pieces (fittings_of s) k ≡ line_weight s (suc k)
line_pieces s k =
    let e : fitting_word (suc k) ≡ fittings_at + 2 * k = omega arith in
    let f : fittings_at + (2 * k + 1) ≡ fittings_at + 2 * k + 1 = omega arith in
    rw (get_or-drop fittings_at s (2 * k) 0, get_or-drop fittings_at s (2 * k + 1) 0, e, f)

sum_lines : (s : List ℕ) (k : ℕ) → length s ≡ sheet_words → k ≤ fittings
    → added_up (fittings_of s) ≡ up_to_line s k + added_up (drop (2 * k) (fittings_of s))
unfolding up_to_line
sum_lines s zero n h = omega arith
sum_lines s (suc k) n h =
    let i = sum_lines s k n (omega arith) in
    let m = sum_more (fittings_of s) k (omega (arith, length-drop fittings_at s)) in
    let e : 2 * (k + 1) ≡ 2 * suc k = omega arith in
    omega (arith, line_pieces s k, rw e at m)

-- F is the sum of them all
pub f_sum : (s : List ℕ) → length s ≡ sheet_words → added_up (fittings_of s) ≡ up_to_line s fittings
f_sum s n =
    let d = sum_end (fittings_of s) fittings (omega (arith, length-drop fittings_at s)) in
    omega (arith, sum_lines s fittings n (omega arith))

-- ---- as it was: where each line has one piece or none, F is the sum of the weights

unfoldable pub singly : List ℕ → List ℕ
singly [] = []
singly (w ∷ ws) = one_piece w ++ singly ws

unfoldable pub former_sum : List ℕ → ℕ
former_sum [] = 0
former_sum (w ∷ ws) = w + former_sum ws

pub single_pieces : (ws : List ℕ) → added_up (singly ws) ≡ former_sum ws
unfolding added_up singly former_sum
single_pieces [] = refl
single_pieces (w ∷ ws) =
    let others = single_pieces ws in
    by_test (eqb w 0) (λ e. rw (e, added_up) (omega (arith, others, eqb-true w 0 e)))
    (λ e. rw (e, added_up) (omega (arith, others)))

-- ---- at most

pub fit_most_lem : (w c : ℕ) → fit_ok w c ≡ true → w * c ≤ fitting_high
fit_most_lem w c h =
    by_test (eqb w 0) (λ e. rw (eqb-true w 0 e) (omega arith)) (λ e. (fit_pieces w c e h).counted.product)

fits_most_lem : (n : ℕ) (s : List ℕ) → fits_ok n s ≡ true → (k : ℕ) → pieces s k ≤ fitting_high
unfolding fits_ok
fits_most_lem zero [] h k = omega arith
fits_most_lem zero (w ∷ s) h k = false_true h
fits_most_lem (suc n) [] h k = false_true h
fits_most_lem (suc n) (w ∷ []) h k = false_true h
fits_most_lem (suc n) (w ∷ c ∷ s) h zero = fit_most_lem w c (both_hold (fit_ok w c) (fits_ok n s) h).0
fits_most_lem (suc n) (w ∷ c ∷ s) h (suc k) =
    let e : 2 * suc k ≡ suc (suc (2 * k)) = omega arith in
    let f : 2 * suc k + 1 ≡ suc (suc (2 * k + 1)) = omega arith in
    rw (f, e) (fits_most_lem n s (both_hold (fit_ok w c) (fits_ok n s) h).1 k)

-- lines that are each within the limits
pub fits_light : (s : List ℕ) → fits_ok fittings s ≡ true → Fittings s
fits_light s h = record { many = fits_length fittings s h; light = fits_most_lem fittings s h }

module _ (s : List ℕ) (w : Fittings (fittings_of s)) where
  pub line_most_lem : (line : ℕ) → 1 ≤ line → line_weight s line ≤ fitting_high
  line_most_lem zero l = absurd (omega arith)
  line_most_lem (suc k) l = rw (← line_pieces s k) (w.light k)

  lines_most : (k : ℕ) → up_to_line s k ≤ fitting_high * k
  unfolding up_to_line
  lines_most zero = omega arith
  lines_most (suc k) = omega (arith, line_most_lem (suc k) (omega arith), lines_most k)

  pub sum_most : added_up (fittings_of s) ≤ fitting_high * fittings
  sum_most = omega (arith, f_sum s (omega (arith, w.many, length-drop fittings_at s)), lines_most fittings)
