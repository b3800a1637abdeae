-- The first digits of a field: how many they are tells whether one more may follow, so that a reader that counts them
-- need not look at the number.
use mathlib.Core.Path.{◌≡◌, refl, ap, ◌∙◌}
use mathlib.Core.Logic.{◌≢◌}
use mathlib.Core.Bool.{true, false}
use mathlib.Core.List.{List}
use Prim.Native.Nat.{ℕ, ◌+◌, ◌*◌, ◌-◌, ◌/◌, ◌≤◌, ◌<◌, max}
use native.Mathlib.Numerals.{add-one}
use native.Mathlib.Omega.{arith}
use borrow.Author.Tests.{le-leb, lt-leb}
use lib.ListN.{length, drop, get_or, drop_of_length-le}
use lib.Seq.{drop-cons}
use Rattle.ground.proofs.Booleans.{second_fails, by_less}
use Rattle.std.specs.Prelude.{Ok, Err}
use Rattle.text.specs.Quoted.{digit0}
use Rattle.text.specs.Number.{is_digit, nine_digits, rest_of, number_of, digits_in, digits_of}
use Rattle.text.proofs.Number.{length_digits_small, length_digits_more, length_digits_mono, length_digits_ten}
use Rattle.text.proofs.NumberSteps.{digit_low, digit_high, number_rest}
use Rattle.text.proofs.NumberTrip.{read_writes, read_small}

-- `nine_digits` is the last number of nine digits
nine : length (digits_of nine_digits) ≡ 9
unfolding digits_of digits_in
nine = refl

ten : length (digits_of (nine_digits + 1)) ≡ 10
unfolding digits_of digits_in
ten = refl

-- f starts with no `0`, and its first i bytes are digits that gave n; before the first, n is 0
pub record Digits (f : List ℕ) (n i : ℕ) : Type 0 where
  pub led : get_or f 0 0 ≢ digit0
  pub none : i ≡ 0 → n ≡ 0
  pub some : 0 < i → 0 < n
  pub count : length (digits_of n) ≡ max i 1
  pub rest : number_of f ≡ rest_of n i (drop i f)

pub digits_none : (f : List ℕ) → 0 < length f → get_or f 0 0 ≢ digit0 → Digits f 0 0
digits_none f h k =
    let c = length_digits_small 0 (omega arith) in
    record { led = k; none = λ z. refl; some = λ z. absurd (omega arith); count = c; rest = number_rest f h k }

module _ {f : List ℕ} {n i : ℕ} (g : Digits f n i) where
  -- one more may follow fewer than ten
  pub digits_nine : i < 10 → n ≤ nine_digits
  digits_nine h =
      by_less nine_digits n
      (λ w. absurd (omega (arith, length_digits_mono (nine_digits + 1) n (omega arith), ten, g.count))) (λ w. w)

  -- and none may follow ten
  digits_ten : 10 ≤ i → nine_digits < n
  digits_ten h =
      by_less nine_digits n (λ w. w) (λ w. absurd (omega (arith, length_digits_mono n nine_digits w, nine, g.count)))

  more_count : (d : ℕ) → d < 10 → length (digits_of (10 * n + d)) ≡ max (i + 1) 1
  more_count d l =
      by_less 0 i
      (λ p.
      let s = g.some p in
      let q : (10 * n + d) / 10 ≡ n = omega arith in
      omega (arith, rw q at (length_digits_more (10 * n + d) (omega arith)), g.count))
      (λ p.
      let z = g.none (omega arith) in
      omega (arith, length_digits_small (10 * n + d) (omega arith)))

  pub digits_next : i < length f
      → i < 10
      → is_digit (get_or f i 0) ≡ true
      → Digits f (10 * n + (get_or f i 0 - digit0)) (i + 1)
  unfolding rest_of
  digits_next h l e =
      let low = digit_low (get_or f i 0) e in
      let high = digit_high (get_or f i 0) e in
      record {
        led = g.led;
        none = λ z. absurd (omega arith);
        some = λ z.
            by_less 0 i (λ p. omega (arith, g.some p))
            (λ p.
            let y : i ≡ 0 = omega arith in
            let k : get_or f i 0 ≢ digit0 = rw y g.led in
            omega arith);
        count = more_count (get_or f i 0 - digit0) (omega arith);
        rest = g.rest ∙ rw (add-one, drop-cons f i 0, e, le-leb n nine_digits (digits_nine l), rest_of);
      }

  pub digits_stop : i < length f → is_digit (get_or f i 0) ≡ false → number_of f ≡ Err i
  unfolding rest_of
  digits_stop h e = g.rest ∙ rw (drop-cons f i 0, e, rest_of)

  -- an eleventh byte is at fault whatever it is
  pub digits_full : i < length f → 10 ≤ i → number_of f ≡ Err i
  unfolding rest_of
  digits_full h l =
      let e = second_fails (is_digit (get_or f i 0)) (lt-leb n nine_digits (digits_ten l)) in
      g.rest ∙ rw (drop-cons f i 0, e, rest_of)

  pub digits_end : length f ≤ i → number_of f ≡ Ok n
  unfolding rest_of
  digits_end h = g.rest ∙ rw (drop_of_length-le f {i = i} h)

-- a number has ten digits at most
pub ten_most : (f : List ℕ) (n : ℕ) → number_of f ≡ Ok n → length f ≤ 10
ten_most f n v = omega (arith, ap length (read_writes f n v), length_digits_ten n (read_small f n v))
