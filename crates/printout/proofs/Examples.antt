-- Worked inputs, computed: 01's printed sample, and the inputs where a program slips.
use mathlib.Core.Path.{◌≡◌, refl}
use mathlib.Core.List.{List, [], ◌∷◌, ◌++◌, map}
use mathlib.Core.Bool.{true}
use Prim.Native.Nat.{ℕ}
use Prim.Native.String.{String}
use lib.ListN.{replicate}
use Rattle.text.specs.Quoted.{bytes}
use Rattle.text.specs.Field.{field_of, agreed}
use Rattle.text.specs.Number.{rest_of, number_of, digits_in, digits_of}
use Rattle.text.specs.Line.{read_entry, read_numbers, read_line, numbers_text}
use Rattle.text.specs.Place.{feeds, since_feed}
use Rattle.form.specs.Parts.{kind_of, numbers_of}
use Rattle.form.specs.Reading.{read_rows, read_parts, read_form}
use Rattle.sheet.specs.SheetText.{sheet_form, empty_lines, fits_from, fits_of, numbers_on, read_sheet}
use Rattle.sheet.specs.EngineText.{engine_form, read_engines}
use Rattle.sheet.proofs.BaseHull.{hull, form, mass, power, seats, sheet_with}
use Rattle.capacity.specs.Volume.{station_product, volume_n, net_z}
use Rattle.capacity.specs.Weights.{added_up, boat_m}
use Rattle.capacity.specs.PlateC.{exact_x, marked_c, rising, rows_right, row_for, lacks_row, engine_weight}
use Rattle.capacity.specs.PlateC.{live_load, persons, lacks_tests, plate_c}
use Rattle.capacity.specs.PlateA.{inboard_x, load_x, marked_a, formula_watts, power_a, plate_a}
use Rattle.printout.specs.Input.{sheet_bytes}
use Rattle.printout.specs.Printed.{plates_text, rows_printed, printed}

-- 01's sheet with another FORM line, another boat and another fitting, and then engine lines
with_fit : String → String → String → String → List ℕ
with_fit form mass fit engines = sheet_with hull form mass power seats (bytes fit ++ (bytes "END\n" ++ bytes engines))

with_form : String → String → String → List ℕ
with_form form mass engines = with_fit form mass "FIT\t1\t3334\n" engines

with_boat : String → String → List ℕ
with_boat = with_form form

abbrev boat : String
boat = mass

-- 01's engine lines
abbrev engines : String
engines = "ENG\t10000\t45000\nENG\t20000\t60000\n"

-- each input, and then what is printed of each
inputs : List (List ℕ)
inputs =
    with_boat boat engines
    -- an END line at the start is the sheet; no input; no engine lines, and more after them
    ∷ (bytes "END\n" ++ with_boat boat engines) ∷ [] ∷ with_boat boat "" ∷ with_boat boat "ENG\t20000\t60000\n\n"
    -- no row reaches the declared power; too heavy a boat for either plate
    ∷ with_boat boat "ENG\t10000\t45000\n" ∷ with_boat "MASS\t2000000\t0\t0\n" engines
    -- a flat bottom in the first row of the power table: plate A refuses, plate C does not
    ∷ with_form "FORM\t2250\t2250\t1000\t500\t1\t0\n" boat engines
    -- the sheet is judged before the engine lines, whose lines are counted from 1 again
    ∷ with_boat "MASS\t0\t0\t0\n" "" ∷ with_boat boat "ENG\t10000\t45000\nENG\t0\t0\n"
    -- an END that is not at the start of its line does not end the sheet, which has more than 4,096 bytes then
    ∷ (bytes "HULL\t16\nxEND\n" ++ replicate 4096 120) ∷ (bytes "HULL\t16\nEND\n" ++ replicate 4096 120)
    -- engine lines of 4,096 bytes, and of one more
    ∷ (with_boat boat "" ++ replicate 4096 69) ∷ (with_boat boat "" ++ replicate 4097 69)
    -- fittings by the piece: what weighs as much prints the same; one gram less; a line that weighs too much
    ∷ with_fit form mass "FIT\t1\t1667\t2\n" engines ∷ with_fit form mass "FIT\t1\t1111\t3\n" engines
    ∷ with_fit form mass "FIT\t1\t5051\t99\n" engines
    -- 8,192 bytes are judged, 8,193 are not
    ∷ (bytes "HULL\t16\nEND\n" ++ replicate 8180 120) ∷ (bytes "HULL\t16\nEND\n" ++ replicate 8181 120)
    ∷ []

inputs_right :
    map printed inputs
    ≡ bytes "PLATE\tA\t326\t20000\nPLATE\tC\t325\t3\n"
    ∷ bytes "INPUT\t2\t1\t1\n" ∷ bytes "INPUT\t2\t1\t1\n" ∷ bytes "INPUT\t2\t1\t1\n" ∷ bytes "INPUT\t2\t2\t1\n"
    ∷ bytes "PLATE\tA\t326\t20000\nREFUSED\tC\t11\n" ∷ bytes "REFUSED\tA\t12\nREFUSED\tC\t12\n"
    ∷ bytes "REFUSED\tA\t13\nPLATE\tC\t165\t1\n"
    ∷ bytes "INPUT\t3\t8\t6\n" ∷ bytes "INPUT\t3\t2\t5\n"
    ∷ bytes "INPUT\t2\t0\t0\n" ∷ bytes "INPUT\t3\t1\t6\n"
    ∷ bytes "INPUT\t2\t1\t2\n" ∷ bytes "INPUT\t2\t0\t0\n"
    ∷ bytes "PLATE\tA\t326\t20000\nPLATE\tC\t325\t3\n" ∷ bytes "PLATE\tA\t326\t20000\nPLATE\tC\t326\t3\n"
    ∷ bytes "INPUT\t3\t11\t12\n"
    ∷ bytes "INPUT\t3\t1\t6\n" ∷ bytes "INPUT\t2\t0\t0\n"
    ∷ []
unfolding inputs with_fit with_form with_boat printed rows_printed plates_text sheet_bytes numbers_text digits_of digits_in
    read_sheet sheet_form numbers_on numbers_of fits_of empty_lines fits_from read_engines engine_form
    read_form read_parts read_rows kind_of read_line agreed read_numbers read_entry field_of number_of rest_of feeds since_feed
    station_product volume_n net_z added_up boat_m exact_x marked_c rising rows_right row_for lacks_row engine_weight live_load
    persons
    lacks_tests plate_c inboard_x load_x marked_a formula_watts power_a plate_a
inputs_right = refl

-- ---- where the sheet ends

starts : List (List ℕ)
starts =
    bytes "END\nEND\n" ∷ bytes "FIT\t1\t5\nEND\nENG" ∷ bytes "xEND\nEND\n" ∷ bytes "END \nEND\n" ∷ bytes "END" ∷ [] ∷ []

ends_right : map (sheet_bytes true) starts ≡ 4 ∷ 12 ∷ 9 ∷ 9 ∷ 3 ∷ 0 ∷ []
unfolding starts sheet_bytes agreed
ends_right = refl
