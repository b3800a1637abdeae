-- Plate A's power as the plate tells it: where it has none, on the line of 5000000, and from hull to hull of one
-- kind. 02 (ii).
use mathlib.Core.Path.{◌≡◌, refl, sym, ap, ◌∙◌}
use mathlib.Core.Bool.{Bool, true, false, ◌&&◌, cond}
use mathlib.Core.List.{List}
use Prim.Native.Nat.{ℕ, suc, ◌≤◌, ◌<◌}
use native.Mathlib.Omega.{arith}
use borrow.Author.Tests.{leb-true, ltb-true, ltb-false, eq-eqb, ne_eqb, eqb-true, eqb-false}
use lib.Dec.{eqb, leb, ltb}
use lib.ListN.{get_or}
use Rattle.ground.proofs.Booleans.{both_hold, either}
use Rattle.answers.specs.Answer.{Answer}
use Rattle.answers.specs.Answer.{Refused, RefusedAt, Done, Count, Plate}
use Rattle.answers.specs.Refusals.{no_power}
use Rattle.capacity.specs.Whole.{is_below, or_zero}
use Rattle.capacity.specs.Words.{transom_height, flat_bottom, remote, outboard}
use Rattle.capacity.specs.PlateC.{row_for}
use Rattle.capacity.specs.PlateA.{marked_a, factor_p, table_end, table_watts, row_of, row_watts, before_watts}
use Rattle.capacity.specs.PlateA.{listed_watts, formula_watts, power_a, lacks_power, plate_a}
use Rattle.capacity.proofs.Power.{by_row, row_in, first_row}
use Rattle.capacity.proofs.Rising.{OneRig, Flatter, watts_grow, power_order}

-- ---- refused with 13 where the power would be 0, and an outboard nowhere else

pub unpowered : (s : List ℕ) → lacks_power s ≡ true → power_a s ≡ 0
unpowered s e =
    let drive = both_hold (eqb (outboard s) 1) (eqb (flat_bottom s) 1 && eqb (row_of (factor_p s)) 0) e in
    let bottom = both_hold (eqb (flat_bottom s) 1) (eqb (row_of (factor_p s)) 0) drive.1 in
    let first = leb-true (factor_p s) 2250000 (first_row s refl drive.0 bottom.0 ∙ e) in
    let none : before_watts (factor_p s)
    ≡ 0 = ap (λ (k : ℕ). get_or table_watts k 0) (eqb-true (row_of (factor_p s)) 0 bottom.1) in
    let outer : eqb (outboard s) 0
    ≡ false =
    ne_eqb (outboard s) 0 (λ (z : outboard s ≡ 0). omega (arith, z, eqb-true (outboard s) 1 drive.0)) in
    sym (by_row s refl {flat = true} outer (omega (arith, first)) (sym bottom.0)) ∙ none

formula_some : (s : List ℕ) → table_end < factor_p s → 1500 ≤ formula_watts s
unfolding formula_watts
formula_some s h =
    either (◌≤◌ 1500) (eqb (remote s) 1 && leb 500 (transom_height s)) (omega arith)
    (either (◌≤◌ 1500) (eqb (flat_bottom s) 1) (omega arith) (omega arith))

row_some : (p : ℕ) (flat : Bool)
    → (flat && eqb (row_of p) 0) ≡ false
    → p ≤ table_end
    → 1500 ≤ cond flat (before_watts p) (row_watts p)
row_some p true e h = watts_grow 1 (row_of p) (omega (arith, eqb-false (row_of p) 0 e)) (omega (arith, row_in p h))
row_some p false e h = watts_grow 1 (suc (row_of p)) (omega arith) (omega (arith, row_in p h))

pub powered : (s : List ℕ) → outboard s ≡ 1 → lacks_power s ≡ false → 1500 ≤ power_a s
unfolding power_a
powered s o =
    rw o (λ (e : (eqb (flat_bottom s) 1 && eqb (row_of (factor_p s)) 0) ≡ false). go e (ltb table_end (factor_p s)) refl)
  where
    go : (eqb (flat_bottom s) 1 && eqb (row_of (factor_p s)) 0) ≡ false
        → (u : Bool)
        → ltb table_end (factor_p s) ≡ u
        → 1500 ≤ cond u (formula_watts s) (listed_watts s)
    go e true a = formula_some s (ltb-true _ _ a)
    go e false a = row_some (factor_p s) (eqb (flat_bottom s) 1) e (ltb-false _ _ a)

-- ---- on the line a flat outboard has 7500 W, whatever its steering and transom

pub flat_on_the_line : (s : List ℕ) → outboard s ≡ 1 → flat_bottom s ≡ 1 → factor_p s ≡ 5000000 → power_a s ≡ 7500
unfolding power_a row_for
flat_on_the_line s o f p = rw (o, f, p) refl

-- ---- the watts that an answer tells; a refusal counts as 0

unfoldable pub watts_of : Answer → ℕ
watts_of (Refused n) = 0
watts_of (RefusedAt n line byte) = 0
watts_of Done = 0
watts_of (Count n) = 0
watts_of (Plate load watts) = watts

-- where plate A marks a load it tells this power, 13 counted as 0
pub told_power : (m : ℕ) (s : List ℕ) → is_below (marked_a m s) 1 ≡ false → watts_of (plate_a m s) ≡ power_a s
unfolding plate_a watts_of
told_power m s e = rw e (go (lacks_power s) refl)
  where
    go : (u : Bool)
        → lacks_power s ≡ u
        → watts_of (cond u (Refused no_power) (Plate (or_zero (marked_a m s)) (power_a s))) ≡ power_a s
    go true n = sym (unpowered s n)
    go false n = refl

-- and no more than it where it does not
told_most : (m : ℕ) (s : List ℕ) → watts_of (plate_a m s) ≤ power_a s
unfolding plate_a watts_of
told_most m s =
    either (λ (a : Answer). watts_of a ≤ power_a s) (is_below (marked_a m s) 1) (omega arith)
    (either (λ (a : Answer). watts_of a ≤ power_a s) (lacks_power s) (omega arith) (omega arith))

told_order : (m n : ℕ) (s t : List ℕ)
    → OneRig s t
    → Flatter s t
    → factor_p s ≤ factor_p t
    → is_below (marked_a n t) 1 ≡ false
    → watts_of (plate_a m s) ≤ watts_of (plate_a n t)
told_order m n s t r f h e = omega (arith, told_most m s, power_order s t r f h, told_power n t e)

-- of hulls of one kind, whatever they weigh, the power never falls as P grows
pub never_falls : (m n : ℕ) (s t : List ℕ)
    → OneRig s t
    → flat_bottom s ≡ flat_bottom t
    → factor_p s ≤ factor_p t
    → is_below (marked_a n t) 1 ≡ false
    → watts_of (plate_a m s) ≤ watts_of (plate_a n t)
never_falls m n s t r f h e = told_order m n s t r (λ x. rw f x) h e

-- a flat bottom never gets more than another of the same P and rig
pub flat_no_more : (m n : ℕ) (s t : List ℕ)
    → OneRig s t
    → flat_bottom s ≡ 1
    → factor_p s ≡ factor_p t
    → is_below (marked_a n t) 1 ≡ false
    → watts_of (plate_a m s) ≤ watts_of (plate_a n t)
flat_no_more m n s t r f h e = told_order m n s t r (λ x. eq-eqb _ _ f) (omega (arith, h)) e
