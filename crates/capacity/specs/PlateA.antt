-- 01, Plate A (003, A2, A3, 2.6.1), as 02 (ii) amends it. Load first, then power, then the two refusals, 12 before 13.
-- 02 (vii): M is handed in, so that the load is by a weight m and a sheet s.
use Rattle.std.specs.Prelude.{ℕ, suc, ◌+◌, ◌-◌, ◌*◌, Bool, ◌&&◌, cond, List, [], ◌∷◌, eqb, leb, ltb, get_or, ℤ, pos, ◌+ℤ◌, ◌-ℤ◌, ◌*ℤ◌}
use Rattle.answers.specs.Answer.{Answer}
use Rattle.answers.specs.Answer.{Refused, Plate}
use Rattle.answers.specs.Refusals.{no_load, no_power}
use Rattle.capacity.specs.Whole.{floor_div, ceil_div, is_below, or_zero}
use Rattle.capacity.specs.Words.{hull_length, transom_width, transom_height, flat_bottom, remote, fuel, machinery}
use Rattle.capacity.specs.Words.{outboard}
use Rattle.capacity.specs.Volume.{gram, net_z}
use Rattle.capacity.specs.PlateC.{exact_x, marked_kilo, row_for}

-- ---- load

-- an inboard's tanks and machinery count five times
unfoldable pub inboard_x : ℕ → List ℕ → ℤ
inboard_x m s = net_z s -ℤ pos gram *ℤ pos m -ℤ pos (5 * gram) *ℤ pos (fuel s + machinery s)

unfoldable pub load_x : ℕ → List ℕ → ℤ
load_x m s = cond (eqb (outboard s) 1) (exact_x m s) (inboard_x m s)

-- half a marked kilogram, so that the largest whole number not above is the nearest
abbrev pub half_marked : ℕ
half_marked = 2500 * gram

unfoldable pub marked_a : ℕ → List ℕ → ℤ
marked_a m s = floor_div (load_x m s +ℤ pos half_marked) marked_kilo

-- ---- power

-- the power factor, square millimetres
abbrev pub factor_p : List ℕ → ℕ
factor_p s = hull_length s * transom_width s

abbrev pub table_end : ℕ
table_end = 5000000

-- the table: what P each row goes up to, and its watts; before the first row there is none, and 0 stands for its watts
abbrev pub table_ends : List ℕ
table_ends = 2250000 ∷ 3300000 ∷ 3600000 ∷ 3900000 ∷ 4200000 ∷ table_end ∷ []

abbrev pub table_watts : List ℕ
table_watts = 0 ∷ 1500 ∷ 3000 ∷ 4000 ∷ 5250 ∷ 7500 ∷ 12000 ∷ []

-- the first row that P is not above, found as an engine's row is
abbrev pub row_of : ℕ → ℕ
row_of p = row_for p table_ends

-- the watts of that row, and of the row before it
abbrev pub row_watts : ℕ → ℕ
row_watts p = get_or table_watts (suc (row_of p)) 0

abbrev pub before_watts : ℕ → ℕ
before_watts p = get_or table_watts (row_of p) 0

-- a / d watts, up to a multiple of 5000; what is one already stays
abbrev pub raised : ℕ → ℕ → ℕ
raised a d = 5000 * ceil_div a (5000 * d)

-- 02 (ii): in the whole of the table, at its end too, a flat bottom takes the row before its own
abbrev pub listed_watts : List ℕ → ℕ
listed_watts s = cond (eqb (flat_bottom s) 1) (before_watts (factor_p s)) (row_watts (factor_p s))

-- above 5000000: 16P/1000 − 67000, 4P/1000 − 11000, 6.5P/1000 − 20000, each over whole numbers
unfoldable pub formula_watts : List ℕ → ℕ
formula_watts s =
    let p = factor_p s in
    cond (eqb (remote s) 1 && leb 500 (transom_height s)) (raised (16 * p - 67000000) 1000)
    (cond (eqb (flat_bottom s) 1) (raised (4 * p - 11000000) 1000) (raised (13 * p - 40000000) 2000))

unfoldable pub power_a : List ℕ → ℕ
power_a s = cond (eqb (outboard s) 0) 0 (cond (ltb table_end (factor_p s)) (formula_watts s) (listed_watts s))

-- a flat outboard that P puts in the first row can be given no power
abbrev pub lacks_power : List ℕ → Bool
lacks_power s = eqb (outboard s) 1 && (eqb (flat_bottom s) 1 && eqb (row_of (factor_p s)) 0)

-- ---- the plate

unfoldable pub plate_a : ℕ → List ℕ → Answer
plate_a m s =
    cond (is_below (marked_a m s) 1) (Refused no_load)
    (cond (lacks_power s) (Refused no_power) (Plate (or_zero (marked_a m s)) (power_a s)))
