-- Cases of fittings, each on all three plates: a line weighs the weight of one piece times how many there are.
use mathlib.Core.List.{List, [], ◌∷◌, ◌++◌}
use Prim.Native.Nat.{ℕ}
use Rattle.answers.specs.Answer.{Refused, Count, Plate}
use Rattle.capacity.proofs.Boats.{Told, on_a, weighing, on_u, pieced, laden}

-- the loads that plates C, A and U mark
abbrev marked : ℕ → ℕ → ℕ → List ℕ → List Told
marked c a u s = weighing 60000 s (Plate c 3) ∷ on_a s (Plate a 20000) ∷ on_u s (Count u) ∷ []

unfoldable pub cases_f : List Told
cases_f =
    -- 02's three pieces, 3333 g as one piece of 01; a gram more of each, a piece less and a piece more
    marked 326 326 718 (pieced 1111 3) ++ (marked 326 326 718 (pieced 3333 1)
    ++ (marked 325 326 718 (pieced 1112 3) ++ (marked 326 326 719 (pieced 1111 2) ++ (marked 325 326 718 (pieced 1111 4)
    -- and its two, 3334 g
    ++ (marked 325 326 718 (pieced 1667 2) ++ (marked 325 326 718 (pieced 3334 1)
    ++ (marked 326 326 718 (pieced 1666 2) ++ (marked 326 326 719 (pieced 1667 1) ++ (marked 325 326 717 (pieced 1667 3)
    -- where plate A's figure falls, and plate U's; by a gram of each, and by a piece
    ++ (marked 326 327 719 (pieced 416 2) ++ (marked 326 326 719 (pieced 417 2)
    ++ (marked 326 327 719 (pieced 9 92) ++ (marked 326 326 719 (pieced 9 93)
    ++ (marked 326 326 719 (pieced 1334 2) ++ (marked 326 326 718 (pieced 1335 2)
    ++ (marked 326 326 719 (pieced 27 98) ++ (marked 326 326 718 (pieced 27 99)
    -- a boat that its fittings leave nothing to carry
    ++ (weighing 0 (laden 5050 99) (Refused 12) ∷ on_a (laden 5050 99) (Refused 12) ∷ on_u (laden 5050 99) (Refused 12)
    ∷ []))))))))))))))))))
