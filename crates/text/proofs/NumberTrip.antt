-- A number that is written reads back, and a field that reads as a number is what it is written as.
use mathlib.Core.Path.{◌≡◌, refl, sym, ap, ◌∙◌}
use mathlib.Core.Bool.{Bool, true, false, ◌&&◌}
use mathlib.Core.List.{List, [], ◌∷◌, ◌++◌, append-nil, append_assoc}
use Prim.Native.Nat.{ℕ, zero, suc, ◌+◌, ◌*◌, ◌-◌, ◌/◌, ◌%◌, ◌≤◌, ◌<◌}
use native.Mathlib.Omega.{arith}
use borrow.Author.Tests.{leb-true, le-leb, eq-eqb, ne_eqb}
use lib.Dec.{leb}
use lib.ListN.{length}
use Rattle.ground.proofs.Booleans.{both_hold, false_true, by_equal}
use Rattle.text.specs.Number.{NumberRead}
use Rattle.std.specs.Prelude.{Ok, Err}
use Rattle.text.specs.Quoted.{tab, feed, dash, digit0}
use Rattle.text.specs.Field.{field_of, begins}
use Rattle.text.specs.Number.{is_digit, nine_digits, eleven_digits, rest_of, zero_alone, number_of, digits_of}
use Rattle.text.proofs.Field.{field_more}
use Rattle.text.proofs.Number.{by_digits, digits_more, digits_push, digits_small, length_digits_more}
use Rattle.text.proofs.NumberSteps.{digit_high, digit_is, digit_low}

-- ---- what is read is what would be written

-- a value came by the arm that reads on
value_past : (t : Bool) (r : NumberRead) (at : ℕ) {m : ℕ}
    → ◌≡◌ {A = NumberRead} (elim t [ true ↦ r | false ↦ Err at ]) (Ok m)
    → (t ≡ true) × (r ≡ Ok m)
value_past true r at e = (refl, e)
value_past false r at e = false_true (cc)

-- what the digits after those of n are, and that they are few enough
rest_back : (n i : ℕ) (s : List ℕ) (m : ℕ)
    → 0 < n
    → n < eleven_digits
    → rest_of n i s ≡ Ok m
    → (digits_of n ++ s ≡ digits_of m) × (m < eleven_digits)
unfolding rest_of
rest_back n i [] m h l e =
    let q : n ≡ m = cc in
    (rw (append-nil, q), omega arith)
rest_back n i (b ∷ s) m h l e =
    let p = value_past (is_digit b && leb n nine_digits) _ _ e in
    let w = both_hold (is_digit b) (leb n nine_digits) p.0 in
    let low = digit_low b w.0 in
    let high = digit_high b w.0 in
    let d : digit0 + (b - digit0) ≡ b = omega arith in
    let few : 10 * n + (b - digit0) < eleven_digits = omega (arith, leb-true n nine_digits w.1) in
    let ih = rest_back (10 * n + (b - digit0)) (suc i) s m (omega arith) few p.1 in
    (rw (digits_push n (b - digit0) h (omega arith), d, append_assoc) at ih.0, ih.1)

zero_back : (s : List ℕ) (n : ℕ) → zero_alone s ≡ Ok n → (s ≡ []) × (n ≡ 0)
zero_back [] n e = (refl, cc)
zero_back (b ∷ s) n e = false_true (cc)

read_back : (f : List ℕ) (n : ℕ) → number_of f ≡ Ok n → (f ≡ digits_of n) × (n < eleven_digits)
unfolding number_of
read_back [] n e = false_true (cc)
read_back (b ∷ s) n e =
    let p = value_past (is_digit b) _ 0 e in
    let low = digit_low b p.0 in
    let high = digit_high b p.0 in
    by_equal b digit0
    (λ k.
    let z = zero_back s n (rw (eq-eqb b digit0 k) at p.1) in
    (rw (z.0, z.1, digits_small 0 (omega arith), k), omega (arith, z.1)))
    (λ k.
    let d : digit0 + (b - digit0) ≡ b = omega arith in
    let r = rest_back (b - digit0) 1 s n (omega arith) (omega arith) (rw (ne_eqb b digit0 k) at p.1) in
    (rw (digits_small (b - digit0) (omega arith), d) at r.0, r.1))

pub read_writes : (f : List ℕ) (n : ℕ) → number_of f ≡ Ok n → f ≡ digits_of n
read_writes f n e = (read_back f n e).0

pub read_small : (f : List ℕ) (n : ℕ) → number_of f ≡ Ok n → n < eleven_digits
read_small f n e = (read_back f n e).1

-- ---- the digits of a number give the number, with anything after them

abbrev Forth : ℕ → Type 0
Forth n = (s : List ℕ) → 0 < n → n < eleven_digits → number_of (digits_of n ++ s) ≡ rest_of n (length (digits_of n)) s

forth_small : (n : ℕ) → n < 10 → Forth n
unfolding number_of rest_of
forth_small n m s p l =
    let e : digit0 + n - digit0 ≡ n = omega arith in
    let d = digit_is (digit0 + n) (omega arith) (omega arith) in
    rw (digits_small n m, d, ne_eqb (digit0 + n) digit0 (omega arith), number_of, e)

forth_more : (n : ℕ) → 10 ≤ n → Forth (n / 10) → Forth n
unfolding rest_of
forth_more n m ih s p l =
    let e : 10 * (n / 10) + (digit0 + n % 10 - digit0) ≡ n = omega arith in
    let j : suc (length (digits_of (n / 10))) ≡ length (digits_of n) = omega (arith, length_digits_more n m) in
    let d = digit_is (digit0 + n % 10) (omega arith) (omega arith) in
    ap (λ (l : List ℕ). number_of (l ++ s)) (digits_more n m)
    ∙ ap number_of (append_assoc (digits_of (n / 10)) ((digit0 + n % 10) ∷ []) s)
    ∙ ih ((digit0 + n % 10) ∷ s) (omega arith) (omega arith)
    ∙ rw (d, le-leb (n / 10) nine_digits (omega arith), rest_of, e, j)

pub written_reads : (n : ℕ) → n < eleven_digits → number_of (digits_of n) ≡ Ok n
unfolding number_of rest_of
written_reads zero h = rw (digits_small 0 (omega arith))
written_reads (suc n) h =
    ap number_of (sym (append-nil (digits_of (suc n))))
    ∙ by_digits Forth forth_small forth_more (suc n) [] (omega arith) h

-- ---- digits hold no tab, no line feed and no dash

field_digit : (d : ℕ) (r : List ℕ) → digit0 ≤ d → field_of (d ∷ r) ≡ d ∷ field_of r
field_digit d r h = field_more d r (rw (ne_eqb d tab (omega arith), ne_eqb d feed (omega arith)))

pub field_digits : (n : ℕ) (r : List ℕ) → field_of (digits_of n ++ r) ≡ digits_of n ++ field_of r
field_digits =
    by_digits (λ n. (r : List ℕ) → field_of (digits_of n ++ r) ≡ digits_of n ++ field_of r)
    (λ n m r. rw (digits_small n m) (field_digit (digit0 + n) r (omega arith)))
    (λ n m ih r.
    let d : ℕ = digit0 + n % 10 in
    rw (digits_more n m) (simp append_assoc (ih (d ∷ r) ∙ rw (field_digit d r (omega arith)))))

pub no_dash : (n : ℕ) (r : List ℕ) → begins dash (digits_of n ++ r) ≡ false
no_dash =
    by_digits (λ n. (r : List ℕ) → begins dash (digits_of n ++ r) ≡ false)
    (λ n m r. rw (digits_small n m) (ne_eqb (digit0 + n) dash (omega arith)))
    (λ n m ih r. rw (digits_more n m, append_assoc) (ih ((digit0 + n % 10) ∷ r)))
