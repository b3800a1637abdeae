-- Cases of plate A: each figure of its rules at its value and one beside it, and its refusals two at once.
use mathlib.Core.List.{List, [], ◌∷◌}
use Rattle.answers.specs.Answer.{Refused, Plate}
use Rattle.capacity.specs.Samples.{seated, load, power, inboard}
use Rattle.capacity.proofs.Boats.{Told, on_a, massed, launch, transom, driven, bare_boat}

unfoldable pub cases_a : List Told
cases_a =
    -- 01's printed sheet, and its case 5
    on_a (seated 3 20000 200000 3334) (Plate 326 20000) ∷ on_a inboard (Plate 257 0)
    -- half a kilogram, and a gram less, of a boat whose every number differs; an outboard's fuel and machinery count
    -- once, an inboard's five times
    ∷ on_a (launch 1 20000 617171 138000) (Plate 573 40000) ∷ on_a (launch 1 20000 617172 138000) (Plate 572 40000)
    ∷ on_a (launch 0 20000 617171 138000) (Plate 429 0) ∷ on_a (launch 0 20000 617172 138000) (Plate 428 0)
    -- at any declared power, 0 W too
    ∷ on_a (massed 1 0 200000 20000 50000) (Plate 313 20000) ∷ on_a (massed 1 1500 200000 20000 50000) (Plate 313 20000)
    ∷ on_a (massed 0 0 200000 20000 50000) (Plate 257 0)
    -- half a kilogram is marked 1, and less is refused
    ∷ on_a (load 20000 1830833 0) (Plate 1 20000) ∷ on_a (load 20000 1830834 0) (Refused 12)
    -- the table's first row, and the least P above it that a sheet can have; a flat bottom has none in it, and then
    -- the row before; an inboard, flat or not, has no power to refuse
    ∷ on_a (power 2250 2250 1000 0 0) (Plate 166 1500) ∷ on_a (power 2149 2149 1047 0 0) (Plate 157 3000)
    ∷ on_a (power 2250 2250 1000 1 0) (Refused 13) ∷ on_a (power 2149 2149 1047 1 0) (Plate 157 1500)
    -- with remote steering and a low transom too
    ∷ on_a (power 2250 2250 1000 0 1) (Plate 166 1500) ∷ on_a (transom 200 (power 2250 2250 1000 0 0)) (Plate 166 1500)
    ∷ on_a (power 2250 2250 1000 1 1) (Refused 13)
    ∷ on_a (driven 0 (power 2250 2250 1000 1 0)) (Plate 166 0) ∷ on_a (driven 0 (power 2250 2250 1000 0 0)) (Plate 166 0)
    -- about the table's end, flat and not
    ∷ on_a (power 4000 4363 1146 0 0) (Plate 327 12000) ∷ on_a (power 4000 4000 1250 0 0) (Plate 327 12000)
    ∷ on_a (power 4000 5071 986 0 0) (Plate 327 15000)
    ∷ on_a (power 4000 4363 1146 1 0) (Plate 327 7500) ∷ on_a (power 4000 4000 1250 1 0) (Plate 327 7500)
    ∷ on_a (power 4000 5071 986 1 0) (Plate 327 10000)
    -- 02 (ii): the builder's flat skiff a shade smaller, on the line and a shade bigger; on it whatever its steering
    -- and transom, another bottom by its own row, an inboard by none
    ∷ on_a (power 4000 4999 1000 1 0) (Plate 327 7500) ∷ on_a (power 4000 5000 1000 1 0) (Plate 327 7500)
    ∷ on_a (power 4000 5001 1000 1 0) (Plate 327 10000)
    ∷ on_a (power 4000 4999 1000 1 1) (Plate 327 7500) ∷ on_a (power 4000 5000 1000 1 1) (Plate 327 7500)
    ∷ on_a (power 4000 5001 1000 1 1) (Plate 327 15000)
    ∷ on_a (transom 499 (power 4000 5000 1000 1 1)) (Plate 327 7500)
    ∷ on_a (transom 499 (power 4000 5001 1000 1 1)) (Plate 327 10000)
    ∷ on_a (transom 200 (power 4000 5000 1000 1 0)) (Plate 327 7500)
    ∷ on_a (transom 900 (power 4000 5000 1000 1 1)) (Plate 327 7500)
    ∷ on_a (power 4000 5000 1000 0 0) (Plate 327 12000) ∷ on_a (power 4000 5000 1000 0 1) (Plate 327 12000)
    ∷ on_a (driven 0 (power 4000 5000 1000 1 0)) (Plate 327 0)
    -- and flat at the ends of other rows
    ∷ on_a (power 2250 2251 1000 1 0) (Plate 166 1500) ∷ on_a (power 3300 3300 1000 1 0) (Plate 263 1500)
    ∷ on_a (power 3300 3301 1000 1 0) (Plate 263 3000)
    ∷ on_a (power 4000 4200 1000 1 0) (Plate 327 5250) ∷ on_a (power 4000 4201 1000 1 0) (Plate 327 7500)
    -- within the table remote steering plays no part
    ∷ on_a (power 4000 4000 1200 0 1) (Plate 327 12000) ∷ on_a (power 4000 4000 1200 1 1) (Plate 327 7500)
    -- 01's case 8
    ∷ on_a (power 4000 4500 1200 0 1) (Plate 327 20000) ∷ on_a (power 4000 4500 1200 1 0) (Plate 327 15000)
    ∷ on_a (power 4000 4500 1200 0 0) (Plate 327 20000)
    -- which formula: by remote steering and by a transom of 500 mm, flat and not
    ∷ on_a (power 4000 4400 1250 0 0) (Plate 327 20000) ∷ on_a (power 4000 4400 1250 0 1) (Plate 327 25000)
    ∷ on_a (transom 499 (power 4000 4400 1250 0 1)) (Plate 327 20000)
    ∷ on_a (transom 900 (power 4000 4400 1250 0 1)) (Plate 327 25000)
    ∷ on_a (power 4000 4400 1250 1 0) (Plate 327 15000) ∷ on_a (power 4000 4400 1250 1 1) (Plate 327 25000)
    ∷ on_a (transom 499 (power 4000 4400 1250 1 1)) (Plate 327 15000)
    -- each formula at a multiple of 5000 W, and at the least P above it that a sheet can have
    ∷ on_a (power 4000 4350 1250 0 1) (Plate 327 20000) ∷ on_a (power 4000 5389 1009 0 1) (Plate 327 25000)
    ∷ on_a (power 4000 5200 1250 1 0) (Plate 327 15000) ∷ on_a (power 3961 3961 1641 1 0) (Plate 323 20000)
    ∷ on_a (power 4000 5000 2000 0 0) (Plate 327 45000) ∷ on_a (power 4000 5071 1972 0 0) (Plate 327 50000)
    ∷ on_a (power 4000 5101 1508 0 0) (Plate 327 35000)
    -- 12 and 13 at once
    ∷ on_a (bare_boat 2000000 (power 2250 2250 1000 1 0)) (Refused 12)
    ∷ []
