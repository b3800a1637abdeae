-- The plates computed: the starred samples of 01, cases 1 to 7, as one statement over one list of them; one table of
-- our own cases, the whole answer of each; the words' names; and each row of the power table.
use mathlib.Core.Path.{◌≡◌, refl}
use mathlib.Core.Bool.{Bool, true, false, ◌&&◌}
use mathlib.Core.List.{List, [], ◌∷◌, ◌++◌, map}
use Prim.Native.Nat.{ℕ, ◌+◌}
use lib.ListN.{get_or, replicate}
use Rattle.text.specs.Field.{field_of, agreed}
use Rattle.text.specs.Number.{rest_of, number_of}
use Rattle.text.specs.Limit.{all_hold}
use Rattle.text.specs.Line.{read_entry, read_numbers, read_line}
use Rattle.text.proofs.Examples.{up_from}
use Rattle.answers.specs.Answer.{Refused}
use Rattle.form.specs.Parts.{kind_of, numbers_of}
use Rattle.form.specs.Outcome.{right}
use Rattle.form.specs.Reading.{read_rows, read_parts, read_form}
use Rattle.sheet.specs.Sheet.{ok_on, fits_ok}
use Rattle.sheet.specs.Places.{fitting_word}
use Rattle.sheet.specs.SheetText.{sheet_form, empty_lines, fits_from, fits_of, numbers_on, read_sheet}
use Rattle.sheet.proofs.BaseHull.{sample}
use Rattle.capacity.specs.Words.{hull_length, reference, transom_width, transom_height, flat_bottom, remote}
use Rattle.capacity.specs.Words.{station, aft, well, flooding, bare, fuel, machinery, outboard, declared}
use Rattle.capacity.specs.Words.{positions, tested, fittings_of}
use Rattle.capacity.specs.Volume.{station_product, volume_n, net_z}
use Rattle.capacity.specs.Weights.{added_up, boat_m}
use Rattle.capacity.specs.PlateC.{exact_x, marked_c, rising, rows_right, row_for, lacks_row, engine_weight, live_load}
use Rattle.capacity.specs.PlateC.{persons, lacks_tests, plate_c}
use Rattle.capacity.specs.PlateA.{inboard_x, load_x, marked_a, row_watts, before_watts, formula_watts, power_a, plate_a}
use Rattle.capacity.specs.PlateU.{rule_u, marked_u, plate_u}
use Rattle.capacity.specs.Samples.{words, seated, load, power, inboard, Case, marks, agrees, refuses, second_is}
use Rattle.capacity.specs.Samples.{answer_c, holds_of, stands, cases}
use Rattle.capacity.proofs.Boats.{Told, answered, all_within, massed, stationed, launch, transom, bare_boat}
use Rattle.capacity.proofs.Boats.{driven, seats, pieced, alike, laden}
use Rattle.capacity.proofs.CasesA.{cases_a}
use Rattle.capacity.proofs.CasesC.{loads_c, rows_c, orders_c}
use Rattle.capacity.proofs.CasesU.{cases_u}
use Rattle.capacity.proofs.CasesF.{cases_f}

-- ---- 01's

all_stand : List Case → Bool
all_stand [] = true
all_stand (c ∷ cs) = stands c && all_stand cs

starred : all_stand cases ≡ true
unfolding all_stand stands cases holds_of answer_c marks agrees refuses second_is seated load power inboard words
    all_hold ok_on fits_ok station_product volume_n net_z added_up boat_m exact_x marked_c rising rows_right row_for
    lacks_row engine_weight live_load persons lacks_tests plate_c inboard_x load_x marked_a formula_watts power_a plate_a
starred = refl

-- a load is marked though the plate is refused for another reason, which is 13 or more
refused_right : map (λ (m : ℕ). agrees (Refused m) 1) (12 ∷ 13 ∷ []) ≡ false ∷ true ∷ []
unfolding agrees
refused_right = refl

-- the base hull's length, reference length, width, flat bottom and remote steering
hull : List ℕ
hull = 4500 ∷ 4000 ∷ 1200 ∷ 0 ∷ 1 ∷ []

-- what each of them is a case of: declared power, bare boat, weight and count of fitting line 1; length, reference
-- length, width, flat bottom, remote steering
told : Case → List ℕ
told c =
    let s = c.sheet in
    declared s ∷ bare s ∷ get_or s (fitting_word 1) 0 ∷ get_or s (fitting_word 1 + 1) 0
    ∷ hull_length s ∷ reference s ∷ transom_width s ∷ flat_bottom s ∷ remote s ∷ []

cases_told :
    map told cases
    ≡ (20000 ∷ 200000 ∷ 0 ∷ 0 ∷ hull) ∷ (20000 ∷ 200000 ∷ 0 ∷ 0 ∷ hull)
    ∷ (1500 ∷ 200000 ∷ 0 ∷ 0 ∷ hull) ∷ (1501 ∷ 200000 ∷ 0 ∷ 0 ∷ hull)
    ∷ (20000 ∷ 200000 ∷ 3333 ∷ 1 ∷ hull) ∷ (20000 ∷ 200000 ∷ 3334 ∷ 1 ∷ hull) ∷ (20000 ∷ 200000 ∷ 3334 ∷ 1 ∷ hull)
    ∷ (20000 ∷ 1828333 ∷ 0 ∷ 0 ∷ hull) ∷ (20000 ∷ 1828334 ∷ 0 ∷ 0 ∷ hull) ∷ (20000 ∷ 1828334 ∷ 0 ∷ 0 ∷ hull)
    ∷ replicate 2 (20000 ∷ 200000 ∷ 0 ∷ 0 ∷ 4500 ∷ 4000 ∷ 1200 ∷ 0 ∷ 0 ∷ [])
    ++ ((20000 ∷ 200000 ∷ 0 ∷ 0 ∷ 2250 ∷ 2250 ∷ 1000 ∷ 0 ∷ 0 ∷ [])
    ∷ (20000 ∷ 200000 ∷ 0 ∷ 0 ∷ 2251 ∷ 2250 ∷ 1000 ∷ 0 ∷ 0 ∷ [])
    ∷ (20000 ∷ 200000 ∷ 0 ∷ 0 ∷ 2250 ∷ 2250 ∷ 1000 ∷ 1 ∷ 0 ∷ [])
    ∷ (20000 ∷ 200000 ∷ 0 ∷ 0 ∷ 4100 ∷ 4000 ∷ 1250 ∷ 0 ∷ 1 ∷ [])
    ∷ [])
unfolding told cases hull seated load power inboard words
cases_told = refl

-- and the other boats are the base hull but for what they are about
boats_right : (power 4000 4500 1200 0 1 ≡ load 20000 200000 0) × (inboard ≡ massed 0 20000 200000 20000 50000)
    × (pieced 3334 1 ≡ seated 3 20000 200000 3334)
unfolding seated load power inboard massed pieced words
boats_right = (refl, refl, refl)

-- the base hull is that of 01's printed sheet
base_right : read_sheet sample ≡ right (0 ∷ seated 3 20000 200000 3334)
unfolding seated words read_sheet sheet_form numbers_on numbers_of fits_of fits_from empty_lines
    read_form read_parts read_rows kind_of read_line agreed read_numbers read_entry field_of number_of rest_of
base_right = refl

-- ---- ours

table : List Told
table = cases_a ++ (loads_c ++ (rows_c ++ (orders_c ++ (cases_u ++ cases_f))))

-- every plate of the table answers as it must, and every sheet is within the limits
plates_right : (map answered table ≡ map (λ (t : Told). t.must) table) × (all_within table ≡ true)
unfolding table cases_a loads_c rows_c orders_c cases_u cases_f all_within massed stationed launch pieced alike laden
    transom bare_boat driven seats up_from seated load power inboard words all_hold ok_on fits_ok station_product volume_n
    net_z added_up boat_m exact_x marked_c rising rows_right row_for lacks_row engine_weight live_load persons lacks_tests plate_c
    inboard_x load_x marked_a formula_watts power_a plate_a rule_u marked_u plate_u
plates_right = (refl, refl)

-- ---- the words

-- by name, in the order of the text
named : List ℕ → List ℕ
named s =
    hull_length s ∷ reference s ∷ transom_width s ∷ transom_height s ∷ flat_bottom s ∷ remote s
    ∷ (station s 0 ++ (station s 1 ++ (station s 2 ++ (station s 3
    ++ (aft s ∷ well s ∷ flooding s ∷ bare s ∷ fuel s ∷ machinery s ∷ outboard s ∷ declared s ∷ positions s ∷ tested s
    ∷ fittings_of s)))))

-- each at its place, and 0 where the list has none; the weight of a fitting line, before its count, at its line's
names_right : (named (up_from 92 0) ≡ up_from 92 0) × (named [] ≡ replicate 16 0)
    × (map fitting_word (1 ∷ 2 ∷ 13 ∷ 24 ∷ []) ≡ 44 ∷ 46 ∷ 68 ∷ 90 ∷ [])
unfolding named up_from
names_right = (refl, refl, refl)

-- ---- the ends of the table's rows, and one above each; above the last there is no row

ends : List ℕ
ends =
    2250000 ∷ 2250001 ∷ 3300000 ∷ 3300001 ∷ 3600000 ∷ 3600001 ∷ 3900000 ∷ 3900001 ∷ 4200000 ∷ 4200001 ∷ 5000000
    ∷ 5000001 ∷ []

rows_right_lem : (map row_watts ends ≡ 1500 ∷ 3000 ∷ 3000 ∷ 4000 ∷ 4000 ∷ 5250 ∷ 5250 ∷ 7500 ∷ 7500 ∷ 12000 ∷ 12000 ∷ 0 ∷ [])
    × (map before_watts ends ≡ 0 ∷ 1500 ∷ 1500 ∷ 3000 ∷ 3000 ∷ 4000 ∷ 4000 ∷ 5250 ∷ 5250 ∷ 7500 ∷ 7500 ∷ 12000 ∷ [])
unfolding ends row_for
rows_right_lem = (refl, refl)
