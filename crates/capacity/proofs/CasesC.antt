-- Cases of plate C: each figure of its rules at its value and one beside it, and its refusals two at once.
use mathlib.Core.List.{List, [], ◌∷◌}
use Prim.Native.Nat.{ℕ}
use lib.ListN.{replicate}
use Rattle.text.proofs.Examples.{up_from}
use Rattle.answers.specs.Answer.{Answer}
use Rattle.answers.specs.Answer.{Refused, Plate}
use Rattle.capacity.specs.Samples.{seated, load, power, inboard}
use Rattle.capacity.proofs.Boats.{Told, on_c, weighing, massed, launch, transom, seats}

-- ---- loads, persons, the engine

abbrev launched : List ℕ
launched = launch 1 20000 612621 138000

-- with seats enough, by two rows of these powers
abbrev twice : List ℕ → List ℕ → Answer → Told
twice ps s = on_c (seats 24 0 s) ps (60000 ∷ 200000 ∷ [])

unfoldable pub loads_c : List Told
loads_c =
    -- 01's printed sheet, and its case 5
    on_c (seated 3 20000 200000 3334) (10000 ∷ 20000 ∷ []) (45000 ∷ 60000 ∷ []) (Plate 325 3)
    ∷ weighing 60000 inboard (Plate 312 4)
    -- the last gram of a kilogram and a gram more, of a boat whose every number differs: a fifth, and three tenths
    ∷ weighing 60000 (launch 1 20000 614671 138000) (Plate 573 5)
    ∷ weighing 60000 (launch 1 20000 614672 138000) (Plate 572 5)
    ∷ weighing 60000 (launch 1 1500 613004 138000) (Plate 860 5)
    ∷ weighing 60000 (launch 1 1500 613005 138000) (Plate 859 5)
    ∷ weighing 60000 (launch 1 1501 614671 138000) (Plate 573 5)
    ∷ weighing 60000 (launch 0 1500 613004 138000) (Plate 860 5)
    -- a marked load of 1, which carries nobody, and of 0
    ∷ weighing 0 (seated 3 20000 1828333 0) (Refused 15) ∷ weighing 0 (seated 3 20000 1828334 0) (Refused 12)
    -- two persons at 150000 g and one at 149999; one at 75000 and none at 74999, or below zero
    ∷ weighing 60000 (seated 4 20000 783333 0) (Plate 210 2) ∷ weighing 60001 (seated 4 20000 783333 0) (Plate 210 1)
    ∷ weighing 60000 (seated 4 20000 1158333 0) (Plate 135 1) ∷ weighing 60001 (seated 4 20000 1158333 0) (Refused 15)
    ∷ weighing 135001 (seated 4 20000 1158333 0) (Refused 15)
    -- untested at 250000 g and at 249999, and below zero
    ∷ weighing 60000 (load 20000 283333 0) (Plate 310 3) ∷ weighing 60001 (load 20000 283333 0) (Refused 14)
    ∷ weighing 310001 (load 20000 283333 0) (Refused 14)
    -- the least of positions, live load and tested persons, each in its turn
    ∷ weighing 60000 (seats 5 0 launched) (Plate 573 5) ∷ weighing 60000 (seats 24 0 launched) (Plate 573 6)
    ∷ weighing 60000 (seats 24 4 launched) (Plate 573 4)
    ∷ weighing 60000 (seats 5 24 launched) (Plate 573 5) ∷ weighing 60000 (seats 24 24 launched) (Plate 573 6)
    ∷ weighing 60000 (seats 1 24 launched) (Plate 573 1) ∷ weighing 60000 (seats 24 1 launched) (Plate 573 1)
    -- an outboard weighs the first row that reaches it, but for one declared at 0 W; an inboard weighs none and needs
    -- none
    ∷ twice (1 ∷ 2 ∷ []) (launch 1 0 612621 138000) (Plate 860 11)
    ∷ twice (1 ∷ 2 ∷ []) (launch 1 1 612621 138000) (Plate 860 10)
    ∷ twice (1 ∷ 2 ∷ []) (launch 1 2 612621 138000) (Plate 860 8)
    ∷ twice (1 ∷ 2 ∷ []) (launch 1 3 612621 138000) (Refused 11)
    ∷ twice (1500 ∷ 1501 ∷ []) (launch 1 1500 612621 138000) (Plate 860 10)
    ∷ twice (1500 ∷ 1501 ∷ []) (launch 1 1501 612621 138000) (Plate 573 4)
    -- with whatever bottom, steering and transom, and whatever an inboard has aboard
    ∷ weighing 60000 (transom 499 (power 4000 4500 1200 1 0)) (Plate 326 3)
    ∷ weighing 60000 (massed 0 20000 200000 0 0) (Plate 326 4)
    ∷ twice (1 ∷ 2 ∷ []) (launch 0 1 612621 138000) (Plate 860 11)
    ∷ twice (1 ∷ 2 ∷ []) (launch 0 20000 612621 138000) (Plate 573 7)
    ∷ []

-- ---- engine rows, of an inboard, which weighs none

abbrev judged : List ℕ → List ℕ → Answer → Told
judged = on_c inboard

abbrev right : Answer
right = Plate 312 4

unfoldable pub rows_c : List Told
rows_c =
    -- none; unequal either way; one
    judged [] [] (Refused 10) ∷ judged (1 ∷ []) [] (Refused 10) ∷ judged [] (0 ∷ []) (Refused 10)
    ∷ judged (1 ∷ 2 ∷ []) (0 ∷ []) (Refused 10) ∷ judged (1 ∷ []) (0 ∷ 0 ∷ []) (Refused 10)
    ∷ judged (1 ∷ []) (0 ∷ []) right
    -- forty, and one more
    ∷ judged (up_from 40 1) (replicate 40 0) right ∷ judged (up_from 41 1) (replicate 41 0) (Refused 10)
    -- rising by one, not rising, falling
    ∷ judged (5 ∷ 6 ∷ []) (0 ∷ 0 ∷ []) right ∷ judged (5 ∷ 5 ∷ []) (0 ∷ 0 ∷ []) (Refused 10)
    ∷ judged (5 ∷ 4 ∷ []) (0 ∷ 0 ∷ []) (Refused 10)
    -- the ends of a power and of a weight, in any row
    ∷ judged (0 ∷ []) (0 ∷ []) (Refused 10) ∷ judged (200000 ∷ []) (1000000 ∷ []) right
    ∷ judged (200001 ∷ []) (0 ∷ []) (Refused 10) ∷ judged (1 ∷ []) (1000001 ∷ []) (Refused 10)
    ∷ judged (200000 ∷ []) (1000001 ∷ []) (Refused 10)
    ∷ judged (1 ∷ 200001 ∷ []) (0 ∷ 0 ∷ []) (Refused 10) ∷ judged (1 ∷ 2 ∷ []) (0 ∷ 1000001 ∷ []) (Refused 10)
    ∷ []

-- ---- two refusals at once: 10, 12, 11, 14, 15

abbrev heavy : List ℕ
heavy = load 20000 1828334 0

unfoldable pub orders_c : List Told
orders_c =
    -- 10 before 12, 11, 14, 15
    on_c heavy [] [] (Refused 10) ∷ on_c (load 20000 200000 0) (10000 ∷ []) [] (Refused 10)
    ∷ on_c (load 20000 283333 0) (20000 ∷ []) (1000001 ∷ []) (Refused 10)
    ∷ on_c (seated 3 20000 283333 0) (20000 ∷ []) (1000001 ∷ []) (Refused 10)
    -- 12 before 11, 14, 15
    ∷ on_c heavy (10000 ∷ []) (0 ∷ []) (Refused 12) ∷ weighing 0 heavy (Refused 12)
    ∷ weighing 0 (seated 3 20000 1828334 0) (Refused 12)
    -- 11 before 14, 15
    ∷ on_c (load 20000 1828333 0) (10000 ∷ []) (0 ∷ []) (Refused 11)
    ∷ on_c (seated 3 20000 1828333 0) (10000 ∷ []) (0 ∷ []) (Refused 11)
    -- 14 before 15
    ∷ weighing 0 (load 20000 1828333 0) (Refused 14)
    ∷ []
