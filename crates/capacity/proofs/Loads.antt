-- The exact loads of 01 as differences of two natural sums, what adds and what takes away.
use mathlib.Core.Path.{◌≡◌, refl}
use mathlib.Core.Bool.{true, false}
use mathlib.Core.List.{List}
use Prim.Native.Nat.{ℕ, ◌+◌, ◌*◌, ◌≤◌, ◌<◌}
use native.Mathlib.Omega.{arith}
use lib.Dec.{eqb}
use borrow.Author.Tests.{lt-ltb, le-ltb}
use lib.IntN.{pos, sub_ℕ, ◌+ℤ◌, ◌-ℤ◌, ◌*ℤ◌}
use Rattle.capacity.specs.Whole.{floor_div, or_zero}
use Rattle.capacity.specs.Words.{aft, well, flooding, fuel, machinery, outboard, declared}
use Rattle.capacity.specs.Volume.{volume_n, gram, net_z}
use Rattle.capacity.specs.PlateC.{exact_x, marked_c, low_power, marked_kilo}
use Rattle.capacity.specs.PlateA.{half_marked, inboard_x, load_x, marked_a}
use Rattle.capacity.proofs.Whole.{Differ, of_pos, of_sub, sum_of, less_of, times_of, is_sub}

abbrev pub gain : List ℕ → ℕ
gain s = volume_n s + gram * aft s

-- of a boat that is taken to weigh w grams
abbrev pub loss : ℕ → List ℕ → ℕ
loss w s = gram * (well s + flooding s + w)

-- what a boat of m grams weighs with tanks and machinery, counted once, and five times as plate A has it for an inboard
abbrev pub vessel : ℕ → List ℕ → ℕ
vessel m s = m + (fuel s + machinery s)

abbrev pub inboard_vessel : ℕ → List ℕ → ℕ
inboard_vessel m s = m + 5 * (fuel s + machinery s)

-- the largest whole number not above (a − b) / d, or 0 where that is below zero
abbrev pub whole_part : ℕ → ℕ → ℕ → ℕ
whole_part a b d = or_zero (floor_div (sub_ℕ a b) d)

-- a multiple of a difference, and a difference with a number added
pub times_sub : (k a b : ℕ) → pos k *ℤ sub_ℕ a b ≡ sub_ℕ (k * a) (k * b)
times_sub k a b = is_sub (k * a) (k * b) (times_of k (of_sub a b)) refl

added : (a b c : ℕ) → sub_ℕ a b +ℤ pos c ≡ sub_ℕ (a + c) b
added a b c = is_sub (a + c) b (sum_of (of_sub a b) (of_pos c)) (omega arith)

module _ (s : List ℕ) where
  net : Differ (net_z s) (volume_n s + gram * (aft s + 0 + 0)) (0 + gram * (0 + well s + flooding s))
  unfolding net_z
  net =
      sum_of (of_pos (volume_n s))
      (times_of gram (less_of (less_of (of_pos (aft s)) (of_pos (well s))) (of_pos (flooding s))))

  pub net_less : (w : ℕ) → net_z s -ℤ pos gram *ℤ pos w ≡ sub_ℕ (gain s) (loss w s)
  net_less w = is_sub (gain s) (loss w s) (less_of net (times_of gram (of_pos w))) (omega arith)

module _ (m : ℕ) (s : List ℕ) where
  exact_is : exact_x m s ≡ sub_ℕ (gain s) (loss (vessel m s) s)
  unfolding exact_x
  exact_is =
      is_sub (gain s) (loss (vessel m s) s) (less_of (net s) (times_of gram (of_pos (m + fuel s + machinery s))))
      (omega arith)

  inboard_is : inboard_x m s ≡ sub_ℕ (gain s) (loss (inboard_vessel m s) s)
  unfolding inboard_x
  inboard_is =
      let carried = times_of (5 * gram) (of_pos (fuel s + machinery s)) in
      is_sub (gain s) (loss (inboard_vessel m s) s) (less_of (less_of (net s) (times_of gram (of_pos m))) carried)
      (omega arith)

  -- ---- the marked loads, by the case that the code finds

  pub marked_high : low_power < declared s → whole_part (gain s) (loss (vessel m s) s) marked_kilo ≡ or_zero (marked_c m s)
  unfolding marked_c
  marked_high h = rw (lt-ltb low_power (declared s) h, exact_is) refl

  pub marked_low : declared s ≤ low_power
      → whole_part (3 * gain s) (3 * loss (vessel m s) s) (2 * marked_kilo) ≡ or_zero (marked_c m s)
  unfolding marked_c
  marked_low h = rw (le-ltb low_power (declared s) h, exact_is, times_sub 3 (gain s) (loss (vessel m s) s)) refl

  pub marked_outboard : eqb (outboard s) 1 ≡ true
      → whole_part (gain s + half_marked) (loss (vessel m s) s) marked_kilo ≡ or_zero (marked_a m s)
  unfolding marked_a load_x
  marked_outboard e = rw (e, exact_is, added (gain s) (loss (vessel m s) s) half_marked) refl

  pub marked_inboard : eqb (outboard s) 1 ≡ false
      → whole_part (gain s + half_marked) (loss (inboard_vessel m s) s) marked_kilo ≡ or_zero (marked_a m s)
  unfolding marked_a load_x
  marked_inboard e = rw (e, inboard_is, added (gain s) (loss (inboard_vessel m s) s) half_marked) refl
