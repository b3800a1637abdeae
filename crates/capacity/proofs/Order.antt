-- The order of whole numbers, below zero too; the lesser and the greater of two.
use mathlib.Core.Path.{◌≡◌, refl, sym}
use mathlib.Core.Bool.{Bool, true, false, true≢false, cond}
use mathlib.Core.Logic.{◌⊎◌, inl, inr}
use Prim.Native.Nat.{ℕ, suc, ◌+◌, ◌≤◌, min, max}
use native.Mathlib.Omega.{arith}
use borrow.Author.Tests.{leb-true, leb-false}
use lib.IntN.{ℤ, pos, negsuc}
use Rattle.capacity.specs.Whole.{is_at_most, least, greatest, or_zero}
use Rattle.capacity.proofs.Whole.{Differ, of_pos}

-- y is not above z
abbrev pub NotAbove : ℤ → ℤ → Type 0
NotAbove (pos m) (pos n) = m ≤ n
NotAbove (pos m) (negsuc n) = ⊥
NotAbove (negsuc m) (pos n) = 0 ≤ n
NotAbove (negsuc m) (negsuc n) = n ≤ m

-- ---- by differences

pub not_above : {y z : ℤ} {a b c d : ℕ} → Differ y a b → Differ z c d → a + d ≤ c + b → NotAbove y z
not_above {y = pos m} {z = pos n} h k l = omega arith
not_above {y = pos m} {z = negsuc n} h k l = omega arith
not_above {y = negsuc m} {z = pos n} h k l = omega arith
not_above {y = negsuc m} {z = negsuc n} h k l = omega arith

pub not_above_back : {y z : ℤ} {a b c d : ℕ} → Differ y a b → Differ z c d → NotAbove y z → a + d ≤ c + b
not_above_back {y = pos m} {z = pos n} h k l = omega arith
not_above_back {y = pos m} {z = negsuc n} h k l = absurd l
not_above_back {y = negsuc m} {z = pos n} h k l = omega arith
not_above_back {y = negsuc m} {z = negsuc n} h k l = omega arith

pub of_neg : (n : ℕ) → Differ (negsuc n) 0 (suc n)
of_neg n = omega arith

pub sums : (z : ℤ) → (a : ℕ) × (b : ℕ) × Differ z a b
sums (pos n) = (n, 0, of_pos n)
sums (negsuc n) = (0, suc n, of_neg n)

-- ---- from one to the next

self : (z : ℤ) → NotAbove z z
self (pos n) = omega arith
self (negsuc n) = omega arith

pub not_above_trans : (x y z : ℤ) → NotAbove x y → NotAbove y z → NotAbove x z
not_above_trans (pos a) (pos b) (pos c) h k = omega arith
not_above_trans (pos a) (pos b) (negsuc c) h k = k
not_above_trans (pos a) (negsuc b) z h k = absurd h
not_above_trans (negsuc a) (pos b) (pos c) h k = omega arith
not_above_trans (negsuc a) (negsuc b) (pos c) h k = omega arith
not_above_trans (negsuc a) (pos b) (negsuc c) h k = absurd k
not_above_trans (negsuc a) (negsuc b) (negsuc c) h k = omega arith

-- ---- the test of it

at_most : (y z : ℤ) → is_at_most y z ≡ true → NotAbove y z
at_most (pos m) (pos n) e = leb-true m n e
at_most (pos m) (negsuc n) e = absurd (true≢false (sym e))
at_most (negsuc m) (pos n) e = omega arith
at_most (negsuc m) (negsuc n) e = leb-true n m e

not_at_most : (y z : ℤ) → is_at_most y z ≡ false → NotAbove z y
not_at_most (pos m) (pos n) e = let h = leb-false m n e in omega arith
not_at_most (pos m) (negsuc n) e = omega arith
not_at_most (negsuc m) (pos n) e = absurd (true≢false e)
not_at_most (negsuc m) (negsuc n) e = let h = leb-false n m e in omega arith

-- ---- the lesser and the greater

-- a choice is one of the two
chosen : (t : Bool) (y z : ℤ) → (cond t y z ≡ y) ⊎ (cond t y z ≡ z)
chosen true y z = inl refl
chosen false y z = inr refl

swapped : {P Q : Type 0} → P ⊎ Q → Q ⊎ P
swapped (inl p) = inr p
swapped (inr q) = inl q

pub least_one : (y z : ℤ) → (least y z ≡ y) ⊎ (least y z ≡ z)
least_one y z = chosen (is_at_most y z) y z

pub greatest_one : (y z : ℤ) → (greatest y z ≡ y) ⊎ (greatest y z ≡ z)
greatest_one y z = swapped (chosen (is_at_most y z) z y)

pub least_left : (y z : ℤ) → NotAbove (least y z) y
least_left y z = go (is_at_most y z) refl
  where
    go : (t : Bool) → is_at_most y z ≡ t → NotAbove (cond t y z) y
    go true e = self y
    go false e = not_at_most y z e

pub least_right : (y z : ℤ) → NotAbove (least y z) z
least_right y z = go (is_at_most y z) refl
  where
    go : (t : Bool) → is_at_most y z ≡ t → NotAbove (cond t y z) z
    go true e = at_most y z e
    go false e = self z

pub greatest_left : (y z : ℤ) → NotAbove y (greatest y z)
greatest_left y z = go (is_at_most y z) refl
  where
    go : (t : Bool) → is_at_most y z ≡ t → NotAbove y (cond t z y)
    go true e = at_most y z e
    go false e = self y

pub greatest_right : (y z : ℤ) → NotAbove z (greatest y z)
greatest_right y z = go (is_at_most y z) refl
  where
    go : (t : Bool) → is_at_most y z ≡ t → NotAbove z (cond t z y)
    go true e = self z
    go false e = not_at_most y z e

-- ---- of what is not below zero

whole_up : (y z : ℤ) → NotAbove y z → or_zero y ≤ or_zero z
whole_up (pos m) (pos n) h = h
whole_up (pos m) (negsuc n) h = absurd h
whole_up (negsuc m) (pos n) h = omega arith
whole_up (negsuc m) (negsuc n) h = omega arith

pub whole_least : (y z : ℤ) → or_zero (least y z) ≡ min (or_zero y) (or_zero z)
whole_least y z = go (is_at_most y z) refl
  where
    go : (t : Bool) → is_at_most y z ≡ t → or_zero (cond t y z) ≡ min (or_zero y) (or_zero z)
    go true e = let h = whole_up y z (at_most y z e) in omega arith
    go false e = let h = whole_up z y (not_at_most y z e) in omega arith

pub whole_greatest : (y z : ℤ) → or_zero (greatest y z) ≡ max (or_zero y) (or_zero z)
whole_greatest y z = go (is_at_most y z) refl
  where
    go : (t : Bool) → is_at_most y z ≡ t → or_zero (cond t z y) ≡ max (or_zero y) (or_zero z)
    go true e = let h = whole_up y z (at_most y z e) in omega arith
    go false e = let h = whole_up z y (not_at_most y z e) in omega arith
