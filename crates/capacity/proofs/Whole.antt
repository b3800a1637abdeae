-- Whole numbers as differences of two natural sums, what adds and what takes away; and the roundings of 01.
use mathlib.Core.Path.{◌≡◌, refl, sym, ap, ◌∙◌}
use mathlib.Core.Bool.{Bool, true, false}
use Prim.Native.Nat.{ℕ, zero, suc, ◌+◌, ◌-◌, ◌*◌, ◌≤◌}
use native.Mathlib.Nat.{mul-add}
use native.Mathlib.Omega.{arith}
use borrow.Author.Tests.{lt-ltb, le-ltb, ltb-true, ltb-false}
use lib.Dec.{ltb}
use lib.IntN.{ℤ, pos, negsuc, neg_ℤ, sub_ℕ, ◌+ℤ◌, ◌-ℤ◌, ◌*ℤ◌}
use Rattle.capacity.specs.Whole.{is_below, or_zero}

abbrev Is : ℤ → ℕ → ℕ → Type 0
Is (pos n) a b = n + b ≡ a
Is (negsuc n) a b = suc n + a ≡ b

-- z is a less b
pub record Differ (z : ℤ) (a b : ℕ) : Type 0 where
  pub is : Is z a b

pub of_pos : (n : ℕ) → Differ (pos n) n 0
of_pos n = omega arith

pub of_sub : (a b : ℕ) → Differ (sub_ℕ a b) a b
of_sub a b = go (ltb a b) refl
  where
    go : (t : Bool) → ltb a b ≡ t → Differ (sub_ℕ a b) a b
    go true e = let h = ltb-true a b e in rw e (omega arith)
    go false e = let h = ltb-false a b e in rw e (omega arith)

-- by any two numbers of the same difference, and by one number alone
moved : {z : ℤ} {a b : ℕ} (c d : ℕ) → Differ z a b → a + d ≡ c + b → Differ z c d
moved {z = pos n} c d h e = omega arith
moved {z = negsuc n} c d h e = omega arith

alone : {y z : ℤ} {a b : ℕ} → Differ y a b → Differ z a b → y ≡ z
alone {y = pos m} {z = pos n} h k = ap pos (omega arith)
alone {y = pos m} {z = negsuc n} h k = absurd (omega arith)
alone {y = negsuc m} {z = pos n} h k = absurd (omega arith)
alone {y = negsuc m} {z = negsuc n} h k = ap negsuc (omega arith)

pub sum_of : {y z : ℤ} {a b c d : ℕ} → Differ y a b → Differ z c d → Differ (y +ℤ z) (a + c) (b + d)
sum_of {y = pos m} {z = pos n} h k = omega arith
sum_of {y = pos m} {z = negsuc n} h k = moved _ _ (of_sub m (suc n)) (omega arith)
sum_of {y = negsuc m} {z = pos n} h k = moved _ _ (of_sub n (suc m)) (omega arith)
sum_of {y = negsuc m} {z = negsuc n} h k = omega arith

opposite : {z : ℤ} {a b : ℕ} → Differ z a b → Differ (neg_ℤ z) b a
opposite {z = pos zero} h = omega arith
opposite {z = pos (suc n)} h = omega arith
opposite {z = negsuc n} h = omega arith

pub less_of : {y z : ℤ} {a b c d : ℕ} → Differ y a b → Differ z c d → Differ (y -ℤ z) (a + d) (b + c)
less_of h k = sum_of h (opposite k)

pub times_of : (k : ℕ) {z : ℤ} {a b : ℕ} → Differ z a b → Differ (pos k *ℤ z) (k * a) (k * b)
times_of k {z = pos n} {a} {b} h = record { is = sym (mul-add k n b) ∙ ap (λ (x : ℕ). k * x) h.is }
times_of k {z = negsuc n} {a} {b} h =
    opposite {z = pos (k * suc n)} (record { is = sym (mul-add k (suc n) a) ∙ ap (λ (x : ℕ). k * x) h.is })

pub is_sub : {z : ℤ} {a b : ℕ} (c d : ℕ) → Differ z a b → a + d ≡ c + b → z ≡ sub_ℕ c d
is_sub c d h e = alone (moved c d h e) (of_sub c d)

-- ---- not below one

-- as a number tells it, 0 where z is below one; where the code has none, that is 0 (figuring/specs/Positive.antt)
pub below_none : (z : ℤ) {n : ℕ} → n ≡ or_zero z → n ≡ 0 → is_below z 1 ≡ true
below_none (pos m) e h = lt-ltb m 1 (omega arith)
below_none (negsuc m) e h = refl

pub below_some : (z : ℤ) {n : ℕ} → n ≡ or_zero z → (n ≡ 0 → ⊥) → is_below z 1 ≡ false
below_some (pos m) e h = le-ltb m 1 (omega (arith, e, h))
below_some (negsuc m) e h = absurd (h e)

pub whole_pos : (z : ℤ) → 1 ≤ or_zero z → z ≡ pos (or_zero z)
whole_pos (pos n) h = refl
whole_pos (negsuc n) h = absurd (omega arith)

-- whether a difference is below n
pub below_sub : (a b n : ℕ) → is_below (sub_ℕ a b) n ≡ ltb a (b + n)
below_sub a b n = go (ltb a b) refl
  where
    go : (t : Bool) → ltb a b ≡ t → is_below (sub_ℕ a b) n ≡ ltb a (b + n)
    go true e = let h = ltb-true a b e in rw (e, lt-ltb a (b + n) (omega arith)) refl
    go false e = let h = ltb-false a b e in rw e (less (ltb (a - b) n) refl h)
      where
        less : (u : Bool) → ltb (a - b) n ≡ u → b ≤ a → ltb (a - b) n ≡ ltb a (b + n)
        less true f h = let k = ltb-true (a - b) n f in rw (f, lt-ltb a (b + n) (omega arith)) refl
        less false f h = let k = ltb-false (a - b) n f in rw (f, le-ltb a (b + n) (omega arith)) refl
