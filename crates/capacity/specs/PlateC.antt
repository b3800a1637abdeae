-- 01, Plate C (002, 4.3.1 and 4.3.2). Every figure is defined for every sheet; what is refused is judged after, in
-- 01's order: 10, 12, 11, 14, 15. 02 (vii): M is handed in, so that every figure is by a weight m and a sheet s.
-- Engine rows come as two lists of numbers, powers and weights.
use Rattle.std.specs.Prelude.{ℕ, suc, ◌+◌, ◌*◌, Bool, true, false, not, ◌&&◌, cond, List, [], ◌∷◌, eqb, leb, ltb, length, get_or, ℤ, pos, ◌-ℤ◌, ◌*ℤ◌}
use Rattle.answers.specs.Answer.{Answer}
use Rattle.answers.specs.Answer.{Refused, Plate}
use Rattle.answers.specs.Refusals.{bad_rows, no_row, no_load, untested, no_persons}
use Rattle.sheet.specs.Lines.{most_rows, engine_power_high, engine_weight_high}
use Rattle.capacity.specs.Whole.{floor_div, is_below, least, or_zero}
use Rattle.capacity.specs.Words.{fuel, machinery, outboard, declared, positions, tested}
use Rattle.capacity.specs.Volume.{gram, net_z}

-- what X has for each kilogram of a load that is a fifth of it: 5 × 1000 grams, as Z counts them
abbrev pub marked_kilo : ℕ
marked_kilo = 5 * 1000 * gram

-- X: the water's weight less the vessel's, tanks and machinery included
unfoldable pub exact_x : ℕ → List ℕ → ℤ
exact_x m s = net_z s -ℤ pos gram *ℤ pos (m + fuel s + machinery s)

-- gross load: a fifth of X above 1500 W, three tenths at 1500 W or below; marked is the largest whole number of
-- kilograms not above it
abbrev pub low_power : ℕ
low_power = 1500

unfoldable pub marked_c : ℕ → List ℕ → ℤ
marked_c m s =
    cond (ltb low_power (declared s)) (floor_div (exact_x m s) marked_kilo)
    (floor_div (pos 3 *ℤ exact_x m s) (2 * marked_kilo))

-- ---- the engine's weight

-- whether a row's values are within limits, its power not below `next`
abbrev pub row_fits : ℕ → ℕ → ℕ → Bool
row_fits next p w = leb next p && (leb p engine_power_high && leb w engine_weight_high)

-- rows of powers from `next` on, each above the one before
unfoldable pub rising : ℕ → List ℕ → List ℕ → Bool
rising next [] [] = true
rising next [] (w ∷ ws) = false
rising next (p ∷ ps) [] = false
rising next (p ∷ ps) (w ∷ ws) = row_fits next p w && rising (p + 1) ps ws

-- slices of equal length, 1 to 40 rows
abbrev pub least_rows : ℕ
least_rows = 1

unfoldable pub rows_right : List ℕ → List ℕ → Bool
rows_right ps ws =
    eqb (length ps) (length ws) && (leb least_rows (length ps) && (leb (length ps) most_rows && rising 1 ps ws))

-- an outboard of declared power above 0 has an engine to weigh
abbrev pub wants_row : List ℕ → Bool
wants_row s = eqb (outboard s) 1 && ltb 0 (declared s)

-- the place of the first row that reaches a power; past the rows where none does
unfoldable pub row_for : ℕ → List ℕ → ℕ
row_for power [] = 0
row_for power (p ∷ ps) = elim (leb power p) [ true ↦ 0 | false ↦ suc (row_for power ps) ]

unfoldable pub lacks_row : List ℕ → List ℕ → Bool
lacks_row s ps = wants_row s && leb (length ps) (row_for (declared s) ps)

unfoldable pub engine_weight : List ℕ → List ℕ → List ℕ → ℕ
engine_weight s ps ws = cond (wants_row s) (get_or ws (row_for (declared s) ps) 0) 0

-- ---- persons

-- grams; below zero where the engine outweighs the marked load
unfoldable pub live_load : ℕ → List ℕ → List ℕ → List ℕ → ℤ
live_load m s ps ws = pos 1000 *ℤ marked_c m s -ℤ pos (engine_weight s ps ws)

abbrev pub person_grams : ℕ
person_grams = 75000

abbrev pub tested_grams : ℕ
tested_grams = 250000

-- of a live load: the least of designated positions, persons by the load, and tested persons where entered
unfoldable pub persons : List ℕ → ℤ → ℤ
persons s live =
    let seated = least (pos (positions s)) (floor_div live person_grams) in
    cond (eqb (tested s) 0) seated (least seated (pos (tested s)))

-- a low live load must have tested persons
unfoldable pub lacks_tests : List ℕ → ℤ → Bool
lacks_tests s live = is_below live tested_grams && eqb (tested s) 0

-- ---- the plate

unfoldable pub plate_c : ℕ → List ℕ → List ℕ → List ℕ → Answer
plate_c m s ps ws =
    let live = live_load m s ps ws in
    cond (not (rows_right ps ws)) (Refused bad_rows)
    (cond (is_below (marked_c m s) 1) (Refused no_load)
    (cond (lacks_row s ps) (Refused no_row)
    (cond (lacks_tests s live) (Refused untested)
    (cond (is_below (persons s live) 1) (Refused no_persons) (Plate (or_zero (marked_c m s)) (or_zero (persons s live)))))))
