-- Plate U as the code works it: pounds over two natural sums, what adds and what takes away, within 64 bits.
use mathlib.Core.Path.{◌≡◌, refl, sym, ap, ◌∙◌}
use mathlib.Core.Bool.{true, false}
use mathlib.Core.List.{List}
use Prim.Native.Nat.{ℕ, ◌+◌, ◌-◌, ◌*◌, ◌/◌, ◌≤◌, ◌<◌, max}
use native.Mathlib.Nat.{mul-le-mul, mul-le-mul_left, mul-le-mul_right, mul-lt-mul_of_pos_left, mul_comm, mul_assoc}
use native.Mathlib.Nat.{mul_left_comm, mul-sub, mul-div_cancel, div-div-eq-div-mul}
use native.Mathlib.Omega.{arith}
use lib.Dec.{eqb, lit<}
use borrow.Author.Tests.{lt-ltb, le-ltb}
use Rattle.ground.proofs.Booleans.{by_less}
use Rattle.capacity.specs.Whole.{or_zero}
use Rattle.sheet.specs.Sheet.{words_ok}
use Rattle.capacity.specs.Words.{machinery, outboard, declared}
use Rattle.capacity.specs.Volume.{gram}
use Rattle.capacity.specs.PlateU.{Figure, figure, boat_b, outboard_fifth, outboard_tenths, inboard_fifth}
use Rattle.capacity.specs.PlateU.{inboard_seventh, Rule, two_horses, finer, pound_fine, divisor_u, pounds, pounds_by}
use Rattle.capacity.specs.PlateU.{marked_u}
use Rattle.capacity.specs.Highs.{heaviest}
use Rattle.capacity.proofs.Order.{whole_greatest}
use Rattle.capacity.proofs.Loads.{gain, loss, whole_part, net_less, times_sub}
use Rattle.capacity.proofs.Most.{gain_most, loss_most, floor_most, gain_most_lem, loss_most_lem}
use Rattle.capacity.proofs.Pounds.{u_high, u_low, u_inboard, by_hull}

-- ---- a figure, as it is defined and over the least numbers that have its fraction, since 100000 and 180000 have 20000
-- in common

abbrev in_common : ℕ
in_common = 20000

abbrev pub fifths : ℕ
fifths = 5

abbrev pub ninths : ℕ
ninths = 9

pub pounds_whole : (s : List ℕ) (f : Figure)
    → whole_part (f.times * finer * gain s) (f.times * finer * loss f.less_grams s) (divisor_u f)
    ≡ or_zero (pounds s f)
pounds_whole s f = rw (net_less s f.less_grams, times_sub (f.times * finer) (gain s) (loss f.less_grams s)) refl

scaled : (k a b d : ℕ) → 0 < k → whole_part (k * a) (k * b) (k * d) ≡ whole_part a b d
scaled k a b d p =
    by_less a b (λ l. rw (lt-ltb a b l, lt-ltb (k * a) (k * b) (mul-lt-mul_of_pos_left l p)) refl)
    (λ l.
    let down : k * (a - b) / (k * d) ≡ (a - b) / d =
    sym (div-div-eq-div-mul (k * (a - b)) k d)
    ∙ ap (λ (x : ℕ). x / d) (ap (λ (x : ℕ). x / k) (mul_comm k (a - b)) ∙ mul-div_cancel (a - b) p) in
    rw (le-ltb a b l, le-ltb (k * a) (k * b) (mul-le-mul_left k l), ← mul-sub k a b) down)

regrouped : (k t x g : ℕ) → k * (t * x * g) ≡ t * (k * x) * g
regrouped k t x g = rw (← mul_assoc k (t * x) g, ← mul_assoc k t x, mul_comm k t, mul_assoc t k x) refl

pub pounds_are : (s : List ℕ) (f : Figure)
    → whole_part (f.times * fifths * gain s) (f.times * fifths * loss f.less_grams s)
    (f.out_of * (ninths * pound_fine))
    ≡ or_zero (pounds s f)
pounds_are s f =
    let t : ℕ = f.times in
    let d : ℕ = f.out_of * (ninths * pound_fine) in
    sym (scaled in_common (t * fifths * gain s) (t * fifths * loss f.less_grams s) d (lit< tt))
    ∙ rw (
      regrouped in_common t fifths (gain s),
      regrouped in_common t fifths (loss f.less_grams s),
      mul_left_comm in_common f.out_of (ninths * pound_fine),
    ) (pounds_whole s f)

-- ---- the marked pounds, by the case that the code finds

module _ (m : ℕ) (s : List ℕ) where
  pub marked_fifth : eqb (outboard s) 1 ≡ true
      → two_horses < declared s
      → or_zero (pounds s (figure (boat_b m s) 1 5)) ≡ or_zero (marked_u m s)
  unfolding marked_u
  marked_fifth e h = rw (u_high m s e h) refl

  pub marked_tenths : eqb (outboard s) 1 ≡ true
      → declared s ≤ two_horses
      → or_zero (pounds s (figure m 3 10)) ≡ or_zero (marked_u m s)
  unfolding marked_u
  marked_tenths e h = rw (u_low m s e h) refl

  pub marked_greater : eqb (outboard s) 1 ≡ false
      → max (or_zero (pounds s (figure (boat_b m s + 4 * machinery s) 1 5))) (or_zero (pounds s (figure (boat_b m s) 1 7)))
      ≡ or_zero (marked_u m s)
  unfolding marked_u
  marked_greater e =
      rw (u_inboard m s e) (sym (whole_greatest (pounds s (inboard_fifth m s)) (pounds s (inboard_seventh m s))))

-- ---- within 64 bits as they are multiplied, and pounds within 32

module _ (s : List ℕ) (ok : words_ok s ≡ true) where
  pub gain_fine : {k : ℕ} (x : ℕ) → k ≤ 3 → k * x * gain s ≤ 3 * x * gain_most
  gain_fine {k} x h = mul-le-mul {n₂ = 3 * x} {m₂ = gain_most} (mul-le-mul_right x h) (gain_most_lem s ok)

  pub loss_fine : {k w : ℕ} → k ≤ 3 → w ≤ heaviest → k * fifths * loss w s ≤ 3 * fifths * loss_most
  loss_fine h l = mul-le-mul {n₂ = 3 * fifths} {m₂ = loss_most} (omega arith) (loss_most_lem s ok l)

  figure_most : (f : Figure) → f.times ≤ 3 → 5 ≤ f.out_of → or_zero (pounds s f) ≤ 80000
  figure_most f t p =
      let q : ℕ = or_zero (pounds s f) in
      let more : ℕ = f.times * finer * gain s in
      let least : 5 * q ≤ f.out_of * q = mul-le-mul {n₁ = 5} {n₂ = f.out_of} p (omega arith) in
      let floored = floor_most more (f.times * finer * loss f.less_grams s) (divisor_u f) in
      let fits : divisor_u f * q ≤ more = rw (sym (pounds_whole s f)) floored in
      omega (arith, least, fits, turned f.out_of (gram * pound_fine) q, gain_fine finer t)
    where
      turned : (a c d : ℕ) → a * c * d ≡ c * (a * d)
      turned a c d = rw (mul_comm a c, mul_assoc c a d) refl

  pub pounds_most : (m : ℕ) → or_zero (marked_u m s) ≤ 80000
  unfolding marked_u
  pounds_most m =
      let fifth = figure_most (inboard_fifth m s) (omega arith) (omega arith) in
      let seventh = figure_most (inboard_seventh m s) (omega arith) (omega arith) in
      by_hull (λ (r : Rule). or_zero (pounds_by s r) ≤ 80000) m s
      (figure_most (outboard_fifth m s) (omega arith) (omega arith))
      (figure_most (outboard_tenths m) (omega arith) (omega arith))
      (omega (arith, whole_greatest (pounds s (inboard_fifth m s)) (pounds s (inboard_seventh m s))))
