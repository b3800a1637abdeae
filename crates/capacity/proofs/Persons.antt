-- Live load and persons over natural sums, and what persons is: the least of the limits that apply.
use mathlib.Core.Path.{◌≡◌, refl, sym, ap, ◌∙◌}
use mathlib.Core.Bool.{Bool, true, false, true≢false, cond}
use mathlib.Core.List.{List}
use mathlib.Core.Logic.{◌⊎◌, inl, inr}
use Prim.Native.Nat.{ℕ, ◌+◌, ◌*◌, ◌≤◌, ◌<◌, min}
use native.Mathlib.Omega.{arith}
use borrow.Author.Tests.{lt-ltb, le-ltb}
use lib.Dec.{eqb}
use lib.IntN.{ℤ, pos, sub_ℕ, ◌-ℤ◌, ◌*ℤ◌}
use Rattle.capacity.specs.Whole.{floor_div, least, or_zero}
use Rattle.sheet.specs.Sheet.{words_ok}
use Rattle.sheet.specs.Places.{positions_at}
use Rattle.capacity.specs.Words.{positions, tested}
use Rattle.capacity.specs.PlateC.{marked_c, engine_weight, live_load, person_grams, tested_grams, persons, lacks_tests}
use Rattle.capacity.specs.Highs.{high_at}
use Rattle.capacity.proofs.Within.{positions_most}
use Rattle.capacity.proofs.Whole.{of_pos, less_of, is_sub, below_sub, whole_pos}
use Rattle.capacity.proofs.Order.{NotAbove, not_above_trans, least_left, least_right, least_one, whole_least}

-- ---- in naturals

pub live_is : (m : ℕ) (s ps ws : List ℕ) {load engine : ℕ}
    → (load ≡ 0 → ⊥)
    → load ≡ or_zero (marked_c m s)
    → engine ≡ engine_weight s ps ws
    → sub_ℕ (1000 * load) engine ≡ live_load m s ps ws
unfolding live_load
live_is m s ps ws h e f =
    let n = or_zero (marked_c m s) in
    let w = engine_weight s ps ws in
    let whole = ap (λ (z : ℤ). pos 1000 *ℤ z -ℤ pos w) (whole_pos (marked_c m s) (omega (arith, h, e))) in
    rw (e, f) (sym (whole ∙ is_sub (1000 * n) w (less_of (of_pos (1000 * n)) (of_pos w)) (omega arith)))

module _ (s : List ℕ) (gross engine : ℕ) where
  pub tested_wanted : {t : Bool}
      → gross < engine + tested_grams
      → t ≡ eqb (tested s) 0
      → t ≡ lacks_tests s (sub_ℕ gross engine)
  unfolding lacks_tests
  tested_wanted h e = rw (below_sub gross engine tested_grams, lt-ltb gross (engine + tested_grams) h) e

  pub tested_unwanted : engine + tested_grams ≤ gross → false ≡ lacks_tests s (sub_ℕ gross engine)
  unfolding lacks_tests
  tested_unwanted h = rw (below_sub gross engine tested_grams, le-ltb gross (engine + tested_grams) h) refl

module _ (s : List ℕ) (live : ℤ) where
  pub persons_untested : eqb (tested s) 0 ≡ true
      → min (positions s) (or_zero (floor_div live person_grams)) ≡ or_zero (persons s live)
  unfolding persons
  persons_untested e = rw e (sym (whole_least (pos (positions s)) (floor_div live person_grams)))

  pub persons_tested : eqb (tested s) 0 ≡ false
      → min (min (positions s) (or_zero (floor_div live person_grams))) (tested s) ≡ or_zero (persons s live)
  unfolding persons
  persons_tested e =
      let inner = whole_least (pos (positions s)) (floor_div live person_grams) in
      let outer = whole_least (least (pos (positions s)) (floor_div live person_grams)) (pos (tested s)) in
      rw e (sym (outer ∙ ap (λ (x : ℕ). min x (tested s)) inner))

  pub persons_most : words_ok s ≡ true → or_zero (persons s live) ≤ high_at positions_at
  persons_most ok = go (eqb (tested s) 0) refl
    where
      go : (t : Bool) → eqb (tested s) 0 ≡ t → or_zero (persons s live) ≤ high_at positions_at
      go true e = omega (arith, persons_untested e, positions_most s ok)
      go false e = omega (arith, persons_tested e, positions_most s ok)

-- ---- the least of the limits that apply

-- p is the least of the limits on persons for a live load: above none of them, and one of them
pub record LeastLimit (s : List ℕ) (live p : ℤ) : Type 0 where
  pub by_positions : NotAbove p (pos (positions s))
  pub by_load : NotAbove p (floor_div live person_grams)
  pub by_tests : eqb (tested s) 0 ≡ false → NotAbove p (pos (tested s))
  pub is_one :
      (p ≡ pos (positions s))
      ⊎ ((p ≡ floor_div live person_grams) ⊎ ((eqb (tested s) 0 ≡ false) × (p ≡ pos (tested s))))

pub persons_least : (s : List ℕ) (live : ℤ) → LeastLimit s live (persons s live)
unfolding persons
persons_least s live = go (eqb (tested s) 0) refl
  where
    a : ℤ
    a = pos (positions s)

    b : ℤ
    b = floor_div live person_grams

    t : ℤ
    t = pos (tested s)

    two : {R : Type 0} → least a b ≡ a ⊎ least a b ≡ b → (least a b ≡ a) ⊎ ((least a b ≡ b) ⊎ R)
    two (inl e) = inl e
    two (inr e) = inr (inl e)

    go : (u : Bool) → eqb (tested s) 0 ≡ u → LeastLimit s live (cond u (least a b) (least (least a b) t))
    go true e =
        record {
          by_positions = least_left a b;
          by_load = least_right a b;
          by_tests = λ (f : eqb (tested s) 0 ≡ false). absurd (true≢false (sym e ∙ f));
          is_one = two (least_one a b);
        }
    go false e =
        record {
          by_positions =
              not_above_trans (least (least a b) t) (least a b) a (least_left (least a b) t) (least_left a b);
          by_load = not_above_trans (least (least a b) t) (least a b) b (least_left (least a b) t) (least_right a b);
          by_tests = λ (f : eqb (tested s) 0 ≡ false). least_right (least a b) t;
          is_one = one (least_one (least a b) t) (least_one a b);
        }
      where
        one : (least (least a b) t ≡ least a b) ⊎ (least (least a b) t ≡ t)
            → (least a b ≡ a) ⊎ (least a b ≡ b)
            → (least (least a b) t ≡ a)
            ⊎ ((least (least a b) t ≡ b) ⊎ ((eqb (tested s) 0 ≡ false) × (least (least a b) t ≡ t)))
        one (inl x) (inl y) = inl (x ∙ y)
        one (inl x) (inr y) = inr (inl (x ∙ y))
        one (inr x) y = inr (inr (e, x))
