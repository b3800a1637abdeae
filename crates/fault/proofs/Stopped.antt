-- Where the number reader stops in a field: some number is written with the bytes before, and whatever stands after the
-- byte there, it stops there again.
use mathlib.Core.Path.{◌≡◌, refl, ◌∙◌}
use mathlib.Core.Bool.{◌&&◌}
use mathlib.Core.List.{List, [], ◌∷◌, ◌++◌, append-nil, append_assoc}
use Prim.Native.Nat.{ℕ, suc, ◌+◌, ◌*◌, ◌-◌, ◌<◌}
use native.Mathlib.Omega.{arith}
use borrow.Author.Tests.{leb-true, eq-eqb, ne_eqb}
use lib.Dec.{leb}
use lib.ListN.{length, take}
use Rattle.ground.proofs.Booleans.{both_hold, false_true, by_test, by_equal}
use Rattle.text.specs.Number.{NumberRead}
use Rattle.std.specs.Prelude.{Err}
use Rattle.text.specs.Quoted.{digit0}
use Rattle.text.specs.Number.{is_digit, nine_digits, eleven_digits, rest_of, zero_alone, number_of, digits_of}
use Rattle.text.proofs.Number.{digits_small, digits_push}
use Rattle.text.proofs.NumberSteps.{digit_low, digit_high}
use Rattle.fault.specs.Rules.{Numeral}
use Rattle.fault.specs.Faulty.{Begun}

pub small_numeral : (n : ℕ) → n < eleven_digits → Numeral (digits_of n)
small_numeral n h = record { value = n; few = omega (arith, h); written = refl }

-- a reader stopped at the byte j of s, after x: some number begins with x and the bytes before that one, and whatever
-- stands after it, the reader stops there again
pub record Stops (x : List ℕ) (read : List ℕ → NumberRead) (at j : ℕ) (s : List ℕ) : Type 0 where
  pub inside : j < length s
  pub begun : Begun Numeral (x ++ take j s)
  pub always : (v : List ℕ) → read (take (suc j) s ++ v) ≡ Err at

begun_number : (n : ℕ) → n < eleven_digits → Begun Numeral (digits_of n ++ [])
begun_number n h =
    let e : (digits_of n ++ []) ++ [] ≡ digits_of n = simp append-nil in
    record { rest = []; whole = rw e (small_numeral n h) }

pub begun_nothing : Begun Numeral []
begun_nothing = record { rest = digits_of 0; whole = small_numeral 0 (omega arith) }

rest_stops : (n i : ℕ) (s : List ℕ) (at : ℕ) → 0 < n → n < eleven_digits → rest_of n i s ≡ Err at
    → (j : ℕ) × (at ≡ i + j) × Stops (digits_of n) (rest_of n i) at j s
unfolding rest_of
rest_stops n i [] at p m e = false_true (cc)
rest_stops n i (b ∷ s) at p m e =
    by_test (is_digit b && leb n nine_digits)
    (λ d.
    let both = both_hold (is_digit b) (leb n nine_digits) d in
    let low = digit_low b both.0 in
    let high = digit_high b both.0 in
    let few : 10 * n + (b - digit0) < eleven_digits = omega (arith, leb-true n nine_digits both.1) in
    let q = rest_stops (10 * n + (b - digit0)) (suc i) s at (omega arith) few (rw (d, rest_of) at e) in
    let c : digit0 + (b - digit0) ≡ b = omega arith in
    let x : digits_of (10 * n + (b - digit0)) ++ take q.0 s ≡ digits_of n ++ (b ∷ take q.0 s) =
    rw (digits_push n (b - digit0) p (omega arith), c) (append_assoc (digits_of n) (b ∷ []) (take q.0 s)) in
    let w = q.2.always in (
      suc q.0,
      omega (arith, q.1),
      record {
        inside = omega (arith, q.2.inside);
        begun = rw x at q.2.begun;
        always = λ v. rw (d, rest_of) (w v);
      },
    ))
    (λ d.
    let w : Err i ≡ Err at = rw (d, rest_of) at e in
    let y : i ≡ at = cc in
    (0, omega arith, record { inside = omega arith; begun = begun_number n m; always = λ v. rw (d, rest_of, y) }))

zero_stops : (s : List ℕ) (at : ℕ) → zero_alone s ≡ Err at
    → (j : ℕ) × (at ≡ 1 + j) × Stops (digits_of 0) zero_alone at j s
zero_stops [] at e = false_true (cc)
zero_stops (c ∷ s) at e =
    let y : 1 ≡ at = cc in
    (0, omega arith, record { inside = omega arith; begun = begun_number 0 (omega arith); always = λ v. rw y })

-- the first byte is the digit of n, and read reads on
first_stops : (b n : ℕ) (s : List ℕ) (read : List ℕ → NumberRead) (at : ℕ) → n < 10 → b ≡ digit0 + n
    → ((v : List ℕ) → number_of (b ∷ v) ≡ read v)
    → (j : ℕ) × (at ≡ 1 + j) × Stops (digits_of n) read at j s
    → Stops [] number_of at at (b ∷ s)
first_stops b n s read at l c r (j, q, p) =
    let d : digits_of n ++ take j s ≡ b ∷ take j s = rw (digits_small n l, ← c) in
    let k : at ≡ suc j = omega arith in
    rw k (record {
      inside = omega (arith, p.inside);
      begun = rw d at p.begun;
      always = λ v. r (take (suc j) s ++ v) ∙ p.always v ∙ rw k;
    })

pub number_stops : (b : ℕ) (s : List ℕ) (at : ℕ) → number_of (b ∷ s) ≡ Err at → Stops [] number_of at at (b ∷ s)
unfolding number_of
number_stops b s at e =
    by_test (is_digit b)
    (λ d.
    let low = digit_low b d in
    let high = digit_high b d in
    by_equal b digit0
    (λ z.
    let y = eq-eqb b digit0 z in
    first_stops b 0 s zero_alone at (omega arith) z (λ v. rw (d, y, number_of))
    (zero_stops s at (rw (d, y, number_of) at e)))
    (λ z.
    let y = ne_eqb b digit0 z in
    first_stops b (b - digit0) s (rest_of (b - digit0) 1) at (omega arith) (omega arith) (λ v. rw (d, y, number_of))
    (rest_stops (b - digit0) 1 s at (omega arith) (omega arith) (rw (d, y, number_of) at e))))
    (λ d.
    let w : Err 0 ≡ Err at = rw (d, number_of) at e in
    let y : 0 ≡ at = cc in
    rw (← y) (record { inside = omega arith; begun = begun_nothing; always = λ v. rw (d, number_of) }))
