-- The rule that 02 (ii) amends, by which a flat bottom on the line of 5000000 had its own row: where the two differ,
-- and the builder's complaint.
use mathlib.Core.Path.{◌≡◌, refl, sym}
use mathlib.Core.Bool.{Bool, true, false, ◌&&◌, cond}
use mathlib.Core.List.{List, [], ◌∷◌, map}
use Prim.Native.Nat.{ℕ, ◌≤◌, ◌<◌}
use native.Mathlib.Omega.{arith}
use borrow.Author.Tests.{lt-ltb, ltb-true, ltb-false, eqb-true, eqb-false}
use lib.Dec.{eqb, leb, ltb}
use Rattle.capacity.specs.Words.{transom_height, flat_bottom, remote, outboard}
use Rattle.capacity.specs.PlateC.{row_for}
use Rattle.capacity.specs.PlateA.{factor_p, table_end, row_watts, before_watts, formula_watts, power_a}
use Rattle.capacity.specs.Samples.{words, power}
use Rattle.capacity.proofs.Power.{no_outboard, by_formula, by_row}

unfoldable pub former : List ℕ → ℕ
former s =
    cond (eqb (outboard s) 0) 0
    (cond (ltb table_end (factor_p s)) (formula_watts s)
    (cond (eqb (flat_bottom s) 1 && ltb (factor_p s) table_end) (before_watts (factor_p s)) (row_watts (factor_p s))))

-- a flat outboard on the line had 12000 W by it, and one a shade bigger 10000 at most, but for the formula of remote
-- steering: of each such kind the power fell
pub former_line_lem : (s : List ℕ) → outboard s ≡ 1 → flat_bottom s ≡ 1 → factor_p s ≡ 5000000 → former s ≡ 12000
unfolding former row_for
former_line_lem s o f p = rw (o, f, p) refl

pub former_fell : (s : List ℕ)
    → outboard s ≡ 1
    → flat_bottom s ≡ 1
    → (eqb (remote s) 1 && leb 500 (transom_height s)) ≡ false
    → 5000000 < factor_p s
    → factor_p s ≤ 5250000
    → former s ≤ 10000
unfolding former formula_watts
former_fell s o f r h k = rw (o, lt-ltb table_end (factor_p s) h, r, f) (omega (arith, h, k))

-- no other power is amended
pub one_point : (s : List ℕ) → ((outboard s ≡ 0 → ⊥) → flat_bottom s ≡ 1 → factor_p s ≡ 5000000 → ⊥) → former s ≡ power_a s
unfolding former
one_point s other =
    go (eqb (outboard s) 0) (ltb table_end (factor_p s)) (eqb (flat_bottom s) 1)
    (ltb (factor_p s) table_end) refl refl refl refl
  where
    go : (inboard above flat below : Bool)
        → eqb (outboard s) 0 ≡ inboard
        → ltb table_end (factor_p s) ≡ above
        → eqb (flat_bottom s) 1 ≡ flat
        → ltb (factor_p s) table_end ≡ below
        → cond inboard 0
        (cond above (formula_watts s) (cond (flat && below) (before_watts (factor_p s)) (row_watts (factor_p s))))
        ≡ power_a s
    go true above flat below o a f b = no_outboard s o
    go false true flat below o a f b = by_formula s refl o (ltb-true table_end (factor_p s) a)
    go false false false below o a f b = by_row s refl {flat = false} o (ltb-false table_end (factor_p s) a) (sym f)
    go false false true true o a f b = by_row s refl {flat = true} o (ltb-false table_end (factor_p s) a) (sym f)
    go false false true false o a f b =
        absurd (other (eqb-false (outboard s) 0 o) (eqb-true (flat_bottom s) 1 f)
        (omega (arith, ltb-false table_end (factor_p s) a, ltb-false (factor_p s) table_end b)))

-- the builder's flat skiff, without remote steering, a shade smaller, on the line and a shade bigger
skiffs : List (List ℕ)
skiffs = power 4000 4999 1000 1 0 ∷ power 4000 5000 1000 1 0 ∷ power 4000 5001 1000 1 0 ∷ []

complaint_right : (map former skiffs ≡ 7500 ∷ 12000 ∷ 10000 ∷ []) × (map power_a skiffs ≡ 7500 ∷ 7500 ∷ 10000 ∷ [])
unfolding skiffs power words former power_a formula_watts row_for
complaint_right = (refl, refl)
