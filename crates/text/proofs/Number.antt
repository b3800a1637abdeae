-- The digits of a number, and how many they are.
use mathlib.Core.Path.{◌≡◌, refl, sym, ap, ◌∙◌}
use mathlib.Core.List.{[], ◌∷◌, ◌++◌}
use Prim.Native.Nat.{ℕ, zero, suc, ◌+◌, ◌*◌, ◌/◌, ◌%◌, ◌^◌, ◌≤◌, ◌<◌}
use native.Mathlib.Omega.{arith}
use borrow.Author.Tests.{lt-ltb, le-ltb}
use lib.ListN.{length, length-append}
use Rattle.ground.proofs.Booleans.{by_less}
use Rattle.text.specs.Quoted.{digit0}
use Rattle.text.specs.Number.{eleven_digits, digits_in, digits_of}

-- ---- one digit, or those of the quotient by ten and the last

in_small : (k n : ℕ) → n < 10 → digits_in (suc k) n ≡ (digit0 + n) ∷ []
unfolding digits_in
in_small k n h = rw (lt-ltb n 10 h, digits_in)

in_more : (k n : ℕ) → 10 ≤ n → digits_in (suc k) n ≡ digits_in k (n / 10) ++ ((digit0 + n % 10) ∷ [])
unfolding digits_in
in_more k n h = rw (le-ltb n 10 h, digits_in)

-- how many digits there may be does not matter, if they are enough
in_enough : (k j n : ℕ) → n < k → n < j → digits_in k n ≡ digits_in j n
in_enough zero j n h l = absurd (omega arith)
in_enough (suc k) zero n h l = absurd (omega arith)
in_enough (suc k) (suc j) n h l =
    by_less n 10 (λ m. in_small k n m ∙ sym (in_small j n m))
    (λ m. in_more k n m ∙ rw (in_enough k j (n / 10) (omega arith) (omega arith)) (sym (in_more j n m)))

pub digits_small : (n : ℕ) → n < 10 → digits_of n ≡ (digit0 + n) ∷ []
unfolding digits_of
digits_small n h = in_small n n h

pub digits_more : (n : ℕ) → 10 ≤ n → digits_of n ≡ digits_of (n / 10) ++ ((digit0 + n % 10) ∷ [])
unfolding digits_of
digits_more n h = in_more n n h ∙ rw (in_enough n (suc (n / 10)) (n / 10) (omega arith) (omega arith))

pub digits_push : (n d : ℕ) → 0 < n → d < 10 → digits_of (10 * n + d) ≡ digits_of n ++ ((digit0 + d) ∷ [])
digits_push n d h l =
    let q : (10 * n + d) / 10 ≡ n = omega arith in
    let r : (10 * n + d) % 10 ≡ d = omega arith in
    digits_more (10 * n + d) (omega arith) ∙ rw (q, r)

-- what is so of a single digit, and of a number if of its quotient by ten, is so of every number
module _ (P : ℕ → Type 0) (one : (n : ℕ) → n < 10 → P n) (more : (n : ℕ) → 10 ≤ n → P (n / 10) → P n) where
  below : (k n : ℕ) → n < k → P n
  below zero n h = absurd (omega arith)
  below (suc k) n h = by_less n 10 (one n) (λ m. more n m (below k (n / 10) (omega arith)))

  pub by_digits : (n : ℕ) → P n
  by_digits n = below (suc n) n (omega arith)

-- ---- how many

pub length_digits_small : (n : ℕ) → n < 10 → length (digits_of n) ≡ 1
length_digits_small n h = ap length (digits_small n h)

pub length_digits_more : (n : ℕ) → 10 ≤ n → length (digits_of n) ≡ length (digits_of (n / 10)) + 1
length_digits_more n h = ap length (digits_more n h) ∙ length-append (digits_of (n / 10)) ((digit0 + n % 10) ∷ [])

-- a larger number has no fewer digits
pub length_digits_mono : (m n : ℕ) → m ≤ n → length (digits_of m) ≤ length (digits_of n)
length_digits_mono m n l =
    by_digits (λ n. (m : ℕ) → m ≤ n → length (digits_of m) ≤ length (digits_of n))
    (λ n b m l. omega (arith, length_digits_small m (omega arith), length_digits_small n b))
    (λ n b ih m l.
    by_less m 10 (λ a. omega (arith, length_digits_small m a, length_digits_more n b))
    (λ a. omega (arith, ih (m / 10) (omega arith), length_digits_more m a, length_digits_more n b)))
    n m l

ten : length (digits_of 9_999_999_999) ≡ 10
unfolding digits_of digits_in
ten = refl

pub length_digits_ten : (n : ℕ) → n < eleven_digits → length (digits_of n) ≤ 10
length_digits_ten n h = omega (arith, length_digits_mono n 9_999_999_999 (omega arith), ten)

twenty : length (digits_of 18_446_744_073_709_551_615) ≡ 20
unfolding digits_of digits_in
twenty = refl

pub length_digits_twenty : (n : ℕ) → n < 2 ^ 64 → length (digits_of n) ≤ 20
length_digits_twenty n h = omega (arith, length_digits_mono n 18_446_744_073_709_551_615 (omega arith), twenty)
