-- A short day at the register, computed: each call's answer, and what it leaves to the next. And every call on no
-- memory at all.
use mathlib.Core.Path.{◌≡◌, refl}
use mathlib.Core.List.{List, [], ◌∷◌, ◌++◌, map}
use Prim.Native.Nat.{ℕ}
use Prim.Native.String.{String}
use lib.ListN.{replicate}
use Rattle.text.specs.Quoted.{bytes}
use Rattle.text.specs.Field.{field_of, agreed}
use Rattle.text.specs.Number.{rest_of, number_of, digits_in, digits_of}
use Rattle.text.specs.Limit.{all_hold}
use Rattle.text.specs.Line.{read_entry, read_numbers, read_line, numbers_text}
use Rattle.text.specs.Place.{feeds, since_feed}
use Rattle.answers.specs.Answer.{Answer}
use Rattle.answers.specs.Answer.{Refused, RefusedAt, Done, Count, Plate}
use Rattle.form.specs.Parts.{kind_of, numbers_of}
use Rattle.form.specs.Reading.{read_rows, read_parts, read_form}
use Rattle.form.specs.Writing.{rows_text, parts_text}
use Rattle.sheet.specs.Sheet.{fits_ok, ok_on}
use Rattle.sheet.specs.SheetText.{sheet_form, empty_lines, fits_from, fit_rows, fits_of, numbers_on, rows_on}
use Rattle.sheet.specs.SheetText.{read_sheet, sheet_text}
use Rattle.capacity.specs.Volume.{station_product, volume_n, net_z}
use Rattle.capacity.specs.Weights.{added_up, boat_m}
use Rattle.capacity.specs.PlateC.{exact_x, marked_c, rising, rows_right, row_for, lacks_row, engine_weight}
use Rattle.capacity.specs.PlateC.{live_load, persons, lacks_tests, plate_c}
use Rattle.capacity.specs.PlateA.{inboard_x, load_x, marked_a, formula_watts, power_a, plate_a}
use Rattle.capacity.specs.PlateU.{rule_u, marked_u, plate_u}
use Rattle.capacity.specs.Kinds.{PlateKind, kind_a, kind_c, kind_u}
use Rattle.memory.specs.Formed.{each, hull_ok, draft_ok, formed}
use Rattle.memory.specs.Updates.{fresh_words, entered, opened, fitted, replaced, dropped, saved}
use Rattle.sheet.proofs.BaseHull.{form, mass, power, seats, sheet_with}
use Rattle.register.specs.Refusals.{room_refusal, hull_refusal, open_refusal, desk_refusal}
use Rattle.register.specs.Calls.{set_fitting, replace, try_plate, plate, weigh, write}
use Rattle.register.specs.Calls.{Call, new_hull, open_hull, work, save, drop_draft, ask, step}
use Rattle.register.proofs.Wanted.{alike, agree, as_wanted}

-- a call, with the answer that it must give
infix 5 ◌must◌
pub data Must : Type 0 where
  ◌must◌ : Call → Answer → Must

abbrev pub wanted : Must → Answer
wanted (c must a) = a

-- what each of the calls answers in the memory m
unfoldable pub answered : List ℕ → List Must → List Answer
answered m [] = []
answered m ((c must a) ∷ cs) = (step m c).answer ∷ answered m cs

-- what the calls answer, one after the other, from the memory m on
unfoldable pub given : List ℕ → List Must → List Answer
given m [] = []
given m ((c must a) ∷ cs) = (step m c).answer ∷ given (step m c).memory cs

-- ---- the day

-- 01's hull with another HULL line and MASS line
numbered_text : String → String → List ℕ
numbered_text hull mass = sheet_with hull form mass power seats (bytes "END\n")

abbrev heavier : String
heavier = "MASS\t203334\t0\t0\n"

-- as it is entered: its HULL number is judged and then ignored
text : String → List ℕ
text = numbered_text "HULL\t9\n"

-- a weight's eleventh digit is the 18th byte of line 13; and a text that is not read
eleven_digits_lem : List ℕ
eleven_digits_lem =
    sheet_with "HULL\t9\n" form mass power seats (bytes "FIT\t1\t1\nFIT\t2\t1\nFIT\t24\t12345678901\nEND\n")

too_long : List ℕ
too_long = replicate 4097 72

-- an engine row whose weight, taken for its power, would not reach the declared power
rows : List ℕ
rows = 20000 ∷ []

grams : List ℕ
grams = 15000 ∷ []

abbrev by_c : PlateKind
by_c = kind_c rows grams

abbrev tries : ℕ → PlateKind → Call
tries d k = work d (try_plate k)

abbrev marks : ℕ → PlateKind → Call
marks h k = ask h (plate k)

abbrev writes : ℕ → ℕ → Call
writes h room = ask h (write (replicate room 7))

day : List Must
day =
    (new_hull (text mass) must Count 0) ∷ (new_hull (text heavier) must Count 1)
    ∷ (new_hull (text "MASS\t0\t0\t0\n") must RefusedAt 3 8 6) ∷ (new_hull eleven_digits_lem must RefusedAt 2 13 18)
    ∷ (new_hull too_long must RefusedAt 2 0 0)
    -- no such desk, hull or draft
    ∷ (open_hull 8 1 must Refused 6) ∷ (open_hull 0 2 must Refused 5) ∷ (save 0 must Refused 7)
    -- desk 0 works on hull 0, where desk 7 has opened it too
    ∷ (open_hull 7 0 must Count 0) ∷ (open_hull 0 0 must Count 0) ∷ (work 0 (set_fitting 25 0 0) must Refused 3)
    ∷ (work 0 (set_fitting 2 250001 2) must Refused 3) ∷ (work 0 (set_fitting 2 1667 2) must Done)
    ∷ (tries 0 kind_a must Plate 326 20000)
    ∷ (marks 0 kind_a must Plate 327 20000) ∷ (tries 0 by_c must Plate 325 3) ∷ (tries 0 kind_u must Count 718)
    ∷ (marks 0 kind_u must Count 720) ∷ (ask 0 weigh must Count 200000) ∷ (ask 1 weigh must Count 203334)
    ∷ (work 0 (set_fitting 1 0 0) must Refused 17) ∷ (save 0 must Count 1)
    ∷ (marks 0 kind_a must Plate 326 20000) ∷ (ask 0 weigh must Count 203334) ∷ (ask 2 weigh must Refused 5)
    -- desk 7's draft is behind; opened anew it is the saved sheet, whose fitting line is emptied
    ∷ (save 7 must Refused 8) ∷ (open_hull 7 0 must Count 1) ∷ (work 7 (set_fitting 2 0 0) must Done)
    ∷ (work 7 (set_fitting 2 0 0) must Refused 17) ∷ (save 7 must Count 2) ∷ (marks 0 by_c must Plate 326 3)
    ∷ (marks 1 by_c must Plate 325 3) ∷ (marks 1 kind_u must Count 718) ∷ (marks 2 kind_a must Refused 5)
    ∷ (marks 2 kind_u must Refused 5)
    -- replace, then drop: nothing of it is left
    ∷ (open_hull 3 1 must Count 0) ∷ (work 3 (replace (bytes "HULL\t9\n")) must RefusedAt 2 2 1)
    ∷ (work 3 (replace eleven_digits_lem) must RefusedAt 2 13 18) ∷ (work 3 (replace too_long) must RefusedAt 2 0 0)
    ∷ (work 3 (replace (text mass)) must Done) ∷ (tries 3 kind_a must Plate 327 20000)
    ∷ (drop_draft 3 must Done) ∷ (tries 3 kind_a must Refused 7) ∷ (tries 3 kind_u must Refused 7)
    ∷ (tries 8 kind_u must Refused 6) ∷ (work 3 (replace []) must Refused 7) ∷ (marks 1 kind_a must Plate 326 20000)
    -- written under the register's number
    ∷ (writes 2 0 must Refused 5) ∷ (writes 1 225 must Refused 16) ∷ (writes 1 226 must Count 226)
    ∷ []

a_day : given fresh_words day ≡ map wanted day
unfolding alike agree
    given day text numbered_text eleven_digits_lem too_long rows grams fresh_words entered opened fitted replaced
    dropped saved each hull_ok draft_ok formed hull_refusal desk_refusal room_refusal open_refusal read_sheet sheet_form
    numbers_on numbers_of fits_of empty_lines fits_from read_form read_parts read_rows kind_of read_line agreed read_numbers
    read_entry field_of number_of rest_of feeds since_feed all_hold ok_on fits_ok sheet_text rows_on fit_rows parts_text rows_text
    numbers_text digits_of digits_in station_product volume_n net_z added_up boat_m exact_x marked_c rising rows_right row_for
    lacks_row engine_weight live_load persons lacks_tests plate_c inboard_x load_x marked_a formula_watts power_a plate_a rule_u
    marked_u plate_u
a_day = as_wanted (given fresh_words day) (map wanted day) refl

-- the bytes of a hull's text: the register's number, and nothing beyond the text
two : List ℕ
two = (step (step fresh_words (new_hull (text mass))).memory (new_hull (text heavier))).memory

a_text : (step two (writes 1 230)).output ≡ numbered_text "HULL\t1\n" heavier ++ replicate 4 7
unfolding two text numbered_text fresh_words entered each hull_ok draft_ok formed hull_refusal room_refusal
    read_sheet sheet_form numbers_on numbers_of fits_of empty_lines fits_from read_form read_parts read_rows kind_of read_line
    agreed read_numbers read_entry field_of number_of rest_of all_hold ok_on fits_ok boat_m added_up sheet_text rows_on fit_rows
    parts_text rows_text numbers_text digits_of digits_in
a_text = refl
