-- Conjunctions and choices, and proofs by cases.
use mathlib.Core.Path.{◌≡◌, refl, sym}
use mathlib.Core.Logic.{◌≢◌}
use mathlib.Core.Bool.{Bool, true, false, not, ◌&&◌, cond, true≢false}
use Prim.Native.Nat.{ℕ, ◌≤◌, ◌<◌}
use borrow.Author.Tests.{ltb-true, ltb-false, eqb-true, eqb-false}
use lib.Dec.{ltb, eqb}

-- ---- a conjunction

pub both_true : {a b : Bool} → a ≡ true → b ≡ true → (a && b) ≡ true
both_true e f = rw (e, f) refl

pub both_hold : (a b : Bool) → (a && b) ≡ true → (a ≡ true) × (b ≡ true)
both_hold true b e = (refl, e)
both_hold false b e = absurd (true≢false (sym e))

pub first_fails : {a : Bool} (b : Bool) → a ≡ false → (a && b) ≡ false
first_fails b e = rw e refl

pub second_fails : (a : Bool) {b : Bool} → b ≡ false → (a && b) ≡ false
second_fails true e = e
second_fails false e = refl

-- ---- a denial, and what cannot be

pub not_false : (b : Bool) → not b ≡ true → b ≡ false
not_false false e = refl
not_false true e = absurd (true≢false (sym e))

pub false_true : {A : Type 0} → false ≡ true → A
false_true e = absurd (true≢false (sym e))

-- ---- a choice: what holds of both holds of it

pub either : {A : Type 0} (P : A → Type 0) (u : Bool) {a b : A} → P a → P b → P (cond u a b)
either P true h k = h
either P false h k = k

-- ---- cases: what follows from a test's either outcome follows

pub by_test : {A : Type 0} (t : Bool) → (t ≡ true → A) → (t ≡ false → A) → A
by_test true h k = h refl
by_test false h k = k refl

pub by_less : {A : Type 0} (m n : ℕ) → (m < n → A) → (n ≤ m → A) → A
by_less m n h k = by_test (ltb m n) (λ e. h (ltb-true m n e)) (λ e. k (ltb-false m n e))

pub by_equal : {A : Type 0} (m n : ℕ) → (m ≡ n → A) → (m ≢ n → A) → A
by_equal m n h k = by_test (eqb m n) (λ e. h (eqb-true m n e)) (λ e. k (eqb-false m n e))
