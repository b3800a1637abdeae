-- A field read as a number, digit by digit.
use mathlib.Core.Path.{◌≡◌, refl, sym, ◌∙◌}
use mathlib.Core.Logic.{◌≢◌}
use mathlib.Core.Bool.{true, ◌&&◌}
use mathlib.Core.List.{List, [], ◌∷◌}
use Prim.Native.Nat.{ℕ, suc, ◌+◌, ◌*◌, ◌-◌, ◌≤◌, ◌<◌}
use native.Mathlib.Nat.{zero-add}
use native.Mathlib.Omega.{arith}
use borrow.Author.Tests.{le-leb, leb-true, eq-eqb, ne_eqb}
use lib.Dec.{leb}
use lib.ListN.{length, drop, get_or}
use Rattle.ground.proofs.Booleans.{both_hold, false_true, by_test, by_equal}
use Rattle.std.specs.Prelude.{Ok, Err}
use Rattle.text.specs.Quoted.{digit0, digit9}
use Rattle.text.specs.Number.{NumberRead, is_digit, nine_digits, rest_of, zero_alone, number_of}

-- ---- digits

pub digit_is : (b : ℕ) → digit0 ≤ b → b ≤ digit9 → is_digit b ≡ true
digit_is b h l = rw (le-leb digit0 b h, le-leb b digit9 l)

pub digit_low : (b : ℕ) → is_digit b ≡ true → digit0 ≤ b
digit_low b e = leb-true digit0 b (both_hold _ _ e).0

pub digit_high : (b : ℕ) → is_digit b ≡ true → b ≤ digit9
digit_high b e = leb-true b digit9 (both_hold (leb digit0 b) _ e).1

-- ---- a field, read digit by digit

pub number_empty : (s : List ℕ) → length s ≡ 0 → number_of s ≡ Err 0
unfolding number_of
number_empty [] h = refl
number_empty (b ∷ s) h = absurd (omega arith)

pub number_zero : (s : List ℕ) → 0 < length s → get_or s 0 0 ≡ digit0 → number_of s ≡ zero_alone (drop 1 s)
unfolding number_of
number_zero [] h e = absurd (omega arith)
number_zero (b ∷ s) h e = rw (digit_is b (omega arith) (omega arith), eq-eqb b digit0 e, number_of)

pub zero_alone_lem : (s : List ℕ) → length s ≡ 1 → zero_alone (drop 1 s) ≡ Ok 0
zero_alone_lem [] h = absurd (omega arith)
zero_alone_lem (b ∷ []) h = refl
zero_alone_lem (b ∷ d ∷ s) h = absurd (omega arith)

pub zero_led : (s : List ℕ) → 0 < length s → length s ≢ 1 → zero_alone (drop 1 s) ≡ Err 1
zero_led [] h k = absurd (omega arith)
zero_led (b ∷ []) h k = absurd (k refl)
zero_led (b ∷ d ∷ s) h k = refl

-- a field that starts with no `0` reads as what is left after no digits
pub number_rest : (s : List ℕ) → 0 < length s → get_or s 0 0 ≢ digit0 → number_of s ≡ rest_of 0 0 s
unfolding number_of rest_of
number_rest [] h k = absurd (omega arith)
number_rest (b ∷ s) h k =
    by_test (is_digit b) (λ e. rw (e, ne_eqb b digit0 k, number_of, rest_of, zero-add)) (λ e. rw (e, number_of, rest_of))

-- ---- the place of a fault is in the field, or at its end

same_place : {i j : ℕ} → ◌≡◌ {A = NumberRead} (Err i) (Err j) → i ≡ j
same_place e = cc

rest_place : (n i : ℕ) (s : List ℕ) (at : ℕ) → rest_of n i s ≡ Err at → at ≤ i + length s
unfolding rest_of
rest_place n i [] at v = false_true (cc)
rest_place n i (b ∷ s) at v =
    by_test (is_digit b && leb n nine_digits)
    (λ u. omega (arith, rest_place (10 * n + (b - digit0)) (suc i) s at (rw (u, rest_of) at v)))
    (λ u. omega (arith, same_place (rw (u, rest_of) at v)))

zero_place : (s : List ℕ) (at : ℕ) → zero_alone s ≡ Err at → at ≤ suc (length s)
zero_place [] at v = false_true (cc)
zero_place (b ∷ s) at v = let z : 1 ≡ at = cc in omega arith

pub number_place : (f : List ℕ) (at : ℕ) → number_of f ≡ Err at → at ≤ length f
unfolding number_of
number_place [] at v = let z : 0 ≡ at = cc in omega arith
number_place (b ∷ s) at v =
    by_equal b digit0 (λ e. zero_place s at (sym (number_zero (b ∷ s) (omega arith) e) ∙ v))
    (λ e. omega (arith, rest_place 0 0 (b ∷ s) at (sym (number_rest (b ∷ s) (omega arith) e) ∙ v)))
