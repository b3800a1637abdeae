-- The heaviest boats that a sheet can have, computed.
use mathlib.Core.Path.{◌≡◌, refl}
use mathlib.Core.Bool.{true, false}
use mathlib.Core.List.{List, [], ◌∷◌, ◌++◌, map}
use Prim.Native.Nat.{ℕ, ◌+◌}
use lib.ListN.{replicate}
use Rattle.text.specs.Limit.{all_hold}
use Rattle.sheet.specs.Sheet.{ok_on, fits_ok, words_ok}
use Rattle.capacity.specs.Words.{fuel, machinery}
use Rattle.capacity.specs.Weights.{added_up, boat_m}
use Rattle.capacity.specs.Highs.{boat_most, heaviest}
use Rattle.capacity.specs.Samples.{words}
use Rattle.capacity.proofs.Boats.{pieced, alike, laden}

-- every mass and fitting at its most
heavy : List ℕ
heavy = replicate 37 0 ++ (2000000 ∷ 500000 ∷ 500000 ∷ 0 ∷ 0 ∷ 1 ∷ 0 ∷ alike 24 500000 1)

heaviest_right :
    ◌≡◌ {A = List ℕ} (boat_m heavy ∷ boat_most ∷ (fuel heavy + machinery heavy) ∷ heaviest ∷ [])
    (14000000 ∷ 14000000 ∷ 1000000 ∷ 4299967295 ∷ [])
unfolding heavy alike boat_m added_up
heaviest_right = refl

-- M of the base hull with as many pieces on every line as there may be, and with one less on each
laden_right : map boat_m (laden 5050 99 ∷ laden 5050 98 ∷ laden 1 1 ∷ []) ≡ 12198800 ∷ 12077600 ∷ 200024 ∷ []
unfolding laden alike pieced words boat_m added_up
laden_right = refl

-- a gram or a piece more is too much
laden_within :
    map words_ok (laden 5050 99 ∷ laden 5051 99 ∷ laden 5050 100 ∷ laden 5051 98 ∷ [])
    ≡ true ∷ false ∷ false ∷ true ∷ []
unfolding laden alike pieced words ok_on fits_ok all_hold
laden_within = refl
