-- What the roundings give: the largest whole number that fits, the nearest with a half upward, the least multiple
-- that reaches.
use mathlib.Core.Path.{◌≡◌, refl}
use mathlib.Core.Bool.{Bool, true, false}
use mathlib.Core.List.{List}
use Prim.Native.Nat.{ℕ, ◌+◌, ◌-◌, ◌*◌, ◌/◌, ◌%◌, ◌≤◌, ◌<◌}
use native.Mathlib.Nat.{mul-add, mul-le-mul, mul-div-le, lt-mul-div-succ}
use native.Mathlib.Omega.{arith}
use borrow.Author.Tests.{lt-ltb, le-ltb, ltb-true, ltb-false}
use lib.Dec.{ltb, lit<}
use lib.IntN.{ℤ, pos, negsuc, ◌+ℤ◌, ◌*ℤ◌}
use Rattle.capacity.specs.Whole.{floor_div, ceil_div}
use Rattle.capacity.specs.Words.{declared}
use Rattle.capacity.specs.PlateC.{marked_kilo, exact_x, low_power, marked_c}
use Rattle.capacity.specs.PlateA.{half_marked, load_x, marked_a, raised}
use Rattle.capacity.proofs.Whole.{of_pos, sum_of, times_of}
use Rattle.capacity.proofs.Order.{NotAbove, not_above, not_above_back, of_neg, sums}

-- q is the largest whole number with q × d not above z: it fits, and one more does not
pub record Largest (z : ℤ) (d : ℕ) (q : ℤ) : Type 0 where
  pub fits : NotAbove (pos d *ℤ q) z
  pub most : NotAbove (z +ℤ pos 1) (pos d *ℤ (q +ℤ pos 1))

pub floor_largest : (z : ℤ) (d : ℕ) → 0 < d → Largest z d (floor_div z d)
floor_largest (pos n) d p =
    let low = mul-div-le n d in
    let high = lt-mul-div-succ n p in
    record {
      fits = not_above (times_of d (of_pos (n / d))) (of_pos n) (omega arith);
      most = not_above (of_pos (n + 1)) (times_of d (of_pos (n / d + 1))) (omega arith);
    }
floor_largest (negsuc n) d p =
    let low = mul-div-le n d in
    let high = lt-mul-div-succ n p in
    record {
      fits = not_above (times_of d (of_neg (n / d))) (of_neg n) (omega arith);
      most = not_above (sum_of (of_neg n) (of_pos 1)) (times_of d (sum_of (of_neg (n / d)) (of_pos 1))) (omega arith);
    }

-- ---- the marked loads

pub c_largest_high : (m : ℕ) (s : List ℕ) → low_power < declared s → Largest (exact_x m s) marked_kilo (marked_c m s)
unfolding marked_c
c_largest_high m s h = rw (lt-ltb low_power (declared s) h) (floor_largest (exact_x m s) marked_kilo (lit< tt))

pub c_largest_low : (m : ℕ) (s : List ℕ) → declared s ≤ low_power
    → Largest (pos 3 *ℤ exact_x m s) (2 * marked_kilo) (marked_c m s)
unfolding marked_c
c_largest_low m s h =
    rw (le-ltb low_power (declared s) h) (floor_largest (pos 3 *ℤ exact_x m s) (2 * marked_kilo) (lit< tt))

-- z is at least q × d less a half of d, and below q × d and a half of d
pub record Nearest (z : ℤ) (half : ℕ) (q : ℤ) : Type 0 where
  pub low : NotAbove (pos (2 * half) *ℤ q) (z +ℤ pos half)
  pub high : NotAbove (z +ℤ pos 1) (pos (2 * half) *ℤ q +ℤ pos half)

nearest_of : (z q : ℤ) → Largest (z +ℤ pos half_marked) marked_kilo q → Nearest z half_marked q
nearest_of z q l =
    let dz = (sums z).2 in
    let dq = (sums q).2 in
    let past = not_above_back (sum_of (sum_of dz (of_pos half_marked)) (of_pos 1))
    (times_of marked_kilo (sum_of dq (of_pos 1))) l.most in
    record {
      low = l.fits;
      high = not_above (sum_of dz (of_pos 1))
          (sum_of (times_of (2 * half_marked) dq) (of_pos half_marked)) (omega arith);
    }

pub a_nearest : (m : ℕ) (s : List ℕ) → Nearest (load_x m s) half_marked (marked_a m s)
unfolding marked_a
a_nearest m s = nearest_of (load_x m s) (marked_a m s) (floor_largest (load_x m s +ℤ pos half_marked) marked_kilo (lit< tt))

-- ---- the raise

ceil_least : (a d m : ℕ) → 0 < d → a ≤ d * m → ceil_div a d ≤ m
ceil_least a d m p h = go (ltb m (ceil_div a d)) refl
  where
    go : (t : Bool) → ltb m (ceil_div a d) ≡ t → ceil_div a d ≤ m
    go true e =
        let more : d * (m + 1) ≤ d * ceil_div a d = mul-le-mul {n₁ = d} {n₂ = d} (omega arith)
        (omega (arith, ltb-true m (ceil_div a d) e)) in
        absurd (omega (arith, more, mul-add d m 1, mul-div-le (a + (d - 1)) d))
    go false e = ltb-false m (ceil_div a d) e

ceil_reaches : (a d : ℕ) → 0 < d → a ≤ d * ceil_div a d
ceil_reaches a d p = omega (arith, lt-mul-div-succ (a + (d - 1)) p, mul-add d (ceil_div a d) 1)

-- a / d watts raised: a multiple of 5000 that reaches them, and no lesser one does
pub raised_multiple : (a d : ℕ) → raised a d % 5000 ≡ 0
raised_multiple a d = omega arith

pub raised_reaches : (a d : ℕ) → 0 < d → a ≤ d * raised a d
raised_reaches a d p = omega (arith, ceil_reaches a (5000 * d) (omega arith))

pub raised_least : (a d m : ℕ) → 0 < d → a ≤ d * (5000 * m) → raised a d ≤ 5000 * m
raised_least a d m p h = omega (arith, ceil_least a (5000 * d) m (omega arith) (omega arith))
