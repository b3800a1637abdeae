-- The weight that is kept beside a sheet, computed: M as fitting line 1 is set, which weights are right, and the plates
-- by a weight that is handed in, the sheet's own and others. By a right weight the plates are the sheet's.
use mathlib.Core.Path.{◌≡◌, refl, ap}
use mathlib.Core.Bool.{Bool, true, false}
use mathlib.Core.List.{List, [], ◌∷◌, map}
use Prim.Native.Nat.{ℕ}
use lib.Seq.{sets}
use Rattle.answers.specs.Answer.{Answer}
use Rattle.answers.specs.Answer.{Refused, Count, Plate}
use Rattle.text.specs.Limit.{all_hold}
use Rattle.sheet.specs.Places.{fitting_word}
use Rattle.sheet.specs.Sheet.{ok_on, fits_ok}
use Rattle.capacity.specs.Volume.{station_product, volume_n, net_z}
use Rattle.capacity.specs.Weights.{added_up, boat_m, weighed_ok}
use Rattle.capacity.specs.PlateC.{exact_x, marked_c, rising, rows_right, row_for, lacks_row, engine_weight, live_load}
use Rattle.capacity.specs.PlateC.{persons, lacks_tests, plate_c}
use Rattle.capacity.specs.PlateA.{inboard_x, load_x, marked_a, formula_watts, power_a, plate_a}
use Rattle.capacity.specs.PlateU.{rule_u, marked_u, plate_u}
use Rattle.capacity.specs.Kinds.{PlateKind, kind_a, kind_c, kind_u, plate_by, plate_of}
use Rattle.capacity.specs.Samples.{words, seated, load, inboard}
use Rattle.capacity.proofs.Scale.{weighed}
use Rattle.capacity.proofs.Boats.{massed, pieced, alike, laden, bare_boat}

-- ---- M: of the base hull, with line 1 at 5050 g times 99 and at 2 g times 3, and emptied again; and the greatest

emptied : List ℕ
emptied = sets (pieced 5050 99) (fitting_word 1) (0 ∷ 0 ∷ [])

greatest : List ℕ
greatest = bare_boat 2000000 (laden 500000 1)

boats_weigh :
    map boat_m (pieced 0 0 ∷ pieced 5050 99 ∷ pieced 2 3 ∷ emptied ∷ greatest ∷ [])
    ≡ 200000 ∷ 699950 ∷ 200006 ∷ 200000 ∷ 14000000 ∷ []
unfolding emptied greatest bare_boat laden alike pieced words boat_m added_up
boats_weigh = refl

-- ---- a weight is right to the gram, with the fittings; of a sheet outside the limits none is, not even M

abbrev right_of : List ℕ → List ℕ → List Bool
right_of s ws = map (λ (w : ℕ). weighed_ok w s) ws

weights_right :
    (right_of (pieced 0 0) (200000 ∷ 199999 ∷ 200001 ∷ 0 ∷ []) ≡ true ∷ false ∷ false ∷ false ∷ [])
    × (right_of (pieced 2 3) (200006 ∷ 200000 ∷ 6 ∷ []) ≡ true ∷ false ∷ false ∷ [])
    × (right_of greatest (14000000 ∷ 13999999 ∷ []) ≡ true ∷ false ∷ [])
    × (boat_m (pieced 5051 99) ≡ 700049) × (weighed_ok 700049 (pieced 5051 99) ≡ false)
unfolding greatest bare_boat laden alike pieced words boat_m added_up all_hold ok_on fits_ok
weights_right = (refl, refl, refl, refl, refl)

-- ---- the plates by its own weight, by those on either side of where a figure falls, by 0, and by more than any boat
-- weighs; plate C with an engine of 60000 g

abbrev by : PlateKind → List ℕ → List ℕ → List Answer
by k s ws = map (λ (w : ℕ). plate_by k w s) ws

abbrev kind_e : PlateKind
kind_e = kind_c (200000 ∷ []) (60000 ∷ [])

base_by :
    (by kind_e (pieced 0 0) (200000 ∷ 203333 ∷ 203334 ∷ 0 ∷ 1828333 ∷ 1828334 ∷ 14000000 ∷ 4294967295 ∷ [])
    ≡ Plate 326 3 ∷ Plate 326 3 ∷ Plate 325 3 ∷ Plate 366 3 ∷ Refused 15 ∷ Refused 12 ∷ Refused 12 ∷ Refused 12 ∷ [])
    × (by kind_e (load 1500 200000 0) (200000 ∷ 200001 ∷ []) ≡ Plate 490 5 ∷ Plate 489 5 ∷ [])
    × (by kind_a (pieced 0 0) (200000 ∷ 200833 ∷ 200834 ∷ 0 ∷ 1830833 ∷ 1830834 ∷ 14000000 ∷ 4294967295 ∷ [])
    ≡ Plate 327 20000 ∷ Plate 327 20000 ∷ Plate 326 20000 ∷ Plate 367 20000 ∷ Plate 1 20000 ∷ Refused 12 ∷ Refused 12
    ∷ Refused 12 ∷ [])
    × (by kind_u (pieced 0 0) (200000 ∷ 200400 ∷ 200401 ∷ 0 ∷ 1831065 ∷ 1831066 ∷ 14000000 ∷ 4294967295 ∷ [])
    ≡ Count 720 ∷ Count 720 ∷ Count 719 ∷ Count 808 ∷ Count 1 ∷ Refused 12 ∷ Refused 12 ∷ Refused 12 ∷ [])
    × (by kind_u (massed 1 1491 200000 0 0) (200000 ∷ 200400 ∷ 200401 ∷ []) ≡ Count 1080 ∷ Count 1080 ∷ Count 1079 ∷ [])
unfolding pieced seated load massed words station_product volume_n net_z exact_x marked_c rising rows_right row_for lacks_row
    engine_weight live_load persons lacks_tests plate_c inboard_x load_x marked_a formula_watts power_a plate_a rule_u marked_u
    plate_u boat_m added_up
base_by = (refl, refl, refl, refl, refl)

-- the same of an inboard; plate U by its fifth, and by its seventh where it has much machinery
inboard_by :
    (by kind_e inboard (200000 ∷ 203333 ∷ 203334 ∷ 0 ∷ 4294967295 ∷ [])
    ≡ Plate 312 4 ∷ Plate 312 4 ∷ Plate 311 4 ∷ Plate 352 4 ∷ Refused 12 ∷ [])
    × (by kind_a inboard (200000 ∷ 200833 ∷ 200834 ∷ 0 ∷ 4294967295 ∷ [])
    ≡ Plate 257 0 ∷ Plate 257 0 ∷ Plate 256 0 ∷ Plate 297 0 ∷ Refused 12 ∷ [])
    × (by kind_u inboard (200000 ∷ 200393 ∷ 200394 ∷ 0 ∷ 4294967295 ∷ [])
    ≡ Count 623 ∷ Count 623 ∷ Count 622 ∷ Count 711 ∷ Refused 12 ∷ [])
    × (by kind_u (massed 0 20000 200000 20000 500000) (200000 ∷ 200358 ∷ 200359 ∷ 0 ∷ 4294967295 ∷ [])
    ≡ Count 508 ∷ Count 508 ∷ Count 507 ∷ Count 571 ∷ Refused 12 ∷ [])
unfolding inboard massed words station_product volume_n net_z exact_x marked_c rising rows_right row_for lacks_row
    engine_weight live_load persons lacks_tests plate_c inboard_x load_x marked_a formula_watts power_a plate_a rule_u marked_u
    plate_u boat_m added_up
inboard_by = (refl, refl, refl, refl)

-- ---- the plates by a right weight are the sheet's

pub plates_of : (k : PlateKind) (w : ℕ) (s : List ℕ) → weighed_ok w s ≡ true → plate_by k w s ≡ plate_of k s
plates_of k w s e = ap (λ (m : ℕ). plate_by k m s) (weighed w s e).weight_is
