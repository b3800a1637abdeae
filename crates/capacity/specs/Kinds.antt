-- 01, Plates, and 02 (i): which plate is asked for, with what its caller gives it, and that plate. A call on the
-- register takes a kind as data, so that its laws are said once for every plate.
use Rattle.std.specs.Prelude.{ℕ, List}
use Rattle.answers.specs.Answer.{Answer}
use Rattle.capacity.specs.Weights.{boat_m}
use Rattle.capacity.specs.PlateC.{plate_c}
use Rattle.capacity.specs.PlateA.{plate_a}
use Rattle.capacity.specs.PlateU.{plate_u}

-- plate A; plate C by engine rows, powers and weights; plate U
pub data PlateKind : Type 0 where
  kind_a : PlateKind
  kind_c : List ℕ → List ℕ → PlateKind
  kind_u : PlateKind

-- 02 (vii): of a sheet and a weight that is taken for M, as the register keeps it
abbrev pub plate_by : PlateKind → ℕ → List ℕ → Answer
plate_by kind_a m s = plate_a m s
plate_by (kind_c ps ws) m s = plate_c m s ps ws
plate_by kind_u m s = plate_u m s

-- of a sheet
abbrev pub plate_of : PlateKind → List ℕ → Answer
plate_of k s = plate_by k (boat_m s) s
