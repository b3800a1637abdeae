-- The starred samples of 01, cases 1 to 7 and 9, as one statement over one list of them.
use mathlib.Core.Path.{◌≡◌, refl}
use mathlib.Core.Bool.{Bool, true, false, ◌&&◌}
use mathlib.Core.List.{List, [], ◌∷◌, ◌++◌, map}
use Prim.Native.Nat.{ℕ}
use lib.Dec.{eqb}
use Rattle.sheet.proofs.BaseHull as base
use Rattle.sheet.proofs.BaseHull.{sheet_with}
use Rattle.text.specs.Quoted.{bytes}
use Rattle.text.specs.Field.{field_of, agreed}
use Rattle.text.specs.Number.{rest_of, number_of}
use Rattle.text.specs.Limit.{all_hold}
use Rattle.text.specs.Line.{read_entry, read_numbers, read_line}
use Rattle.answers.specs.Answer.{Answer}
use Rattle.answers.specs.Answer.{Refused, RefusedAt, Done, Count, Plate}
use Rattle.sheet.specs.Sheet.{fits_ok, ok_on}
use Rattle.form.specs.Parts.{kind_of, numbers_of}
use Rattle.form.specs.Reading.{read_rows, read_parts, read_form}
use Rattle.sheet.specs.SheetText.{sheet_form, empty_lines, fits_from, fits_of, numbers_on, read_sheet}
use Rattle.capacity.specs.Volume.{station_product, volume_n, net_z}
use Rattle.capacity.specs.Weights.{added_up, boat_m}
use Rattle.capacity.specs.PlateC.{exact_x, marked_c, rising, rows_right, row_for, lacks_row, engine_weight, live_load, persons}
use Rattle.capacity.specs.PlateC.{lacks_tests, plate_c}
use Rattle.capacity.specs.PlateA.{inboard_x, load_x, marked_a, formula_watts, power_a, plate_a}
use Rattle.capacity.specs.Samples.{words, seated, load, power, inboard, Case, marks, agrees, refuses, second_is}
use Rattle.capacity.specs.Samples.{answer_c, holds_of, stands, cases}
use Rattle.memory.specs.Formed.{each, hull_ok, draft_ok, formed}
use Rattle.memory.specs.Updates.{fresh_words, entered, opened, saved, dropped}
use Rattle.register.specs.Refusals.{desk_refusal, room_refusal, open_refusal}
use Rattle.register.specs.Calls.{Call, new_hull, open_hull, save}
use Rattle.history.specs.Replies.{reply, next}

-- ---- a case is of a sheet, or of a run of calls from fresh, each with the number that it answers or is refused with

data Turn : Type 0 where
  answers refused : Call → ℕ → Turn

data Starred : Type 0 where
  of_sheet : Case → Starred
  of_run : List Turn → Starred

counts : Answer → ℕ → Bool
counts (Refused m) n = false
counts (RefusedAt m line byte) n = false
counts Done n = false
counts (Count m) n = eqb m n
counts (Plate a b) n = false

turns_right : List ℕ → List Turn → Bool
turns_right m [] = true
turns_right m (answers c n ∷ ts) = counts (reply m c).answer n && turns_right (next m c) ts
turns_right m (refused c n ∷ ts) = refuses (reply m c).answer n && turns_right (next m c) ts

right : Starred → Bool
right (of_sheet c) = stands c
right (of_run ts) = turns_right fresh_words ts

all_right : List Starred → Bool
all_right [] = true
all_right (c ∷ cs) = right c && all_right cs

-- ---- the cases

text : List ℕ
text = sheet_with base.hull base.form base.mass base.power "SEAT\t5\t-\n" (bytes "END\n")

-- hull 0 entered, and brought to edit number 4
four_saves : List Turn
four_saves =
    answers (new_hull text) 0 ∷ answers (open_hull 7 0) 0 ∷ answers (save 7) 1 ∷ answers (open_hull 7 0) 1
    ∷ answers (save 7) 2
    ∷ answers (open_hull 7 0) 2 ∷ answers (save 7) 3 ∷ answers (open_hull 7 0) 3 ∷ answers (save 7) 4
    ∷ []

-- 9: two desks open at edit number 4
ninth : List Turn
ninth =
    four_saves
    ++ (answers (open_hull 0 0) 4 ∷ answers (open_hull 1 0) 4 ∷ answers (save 1) 5 ∷ refused (save 0) 8
    ∷ answers (open_hull 0 0) 5 ∷ answers (save 0) 6 ∷ [])

-- Every starred case is as 01 says.
starred_all : all_right (map of_sheet cases ++ (of_run ninth ∷ [])) ≡ true
unfolding all_right right ninth four_saves turns_right text counts stands cases holds_of answer_c marks agrees
    refuses second_is seated load power inboard words all_hold ok_on fits_ok station_product volume_n net_z
    added_up boat_m exact_x marked_c rising rows_right row_for lacks_row engine_weight live_load persons lacks_tests plate_c
    inboard_x load_x marked_a formula_watts power_a plate_a reply next fresh_words entered opened saved dropped each
    hull_ok draft_ok formed desk_refusal room_refusal open_refusal read_sheet sheet_form numbers_on numbers_of fits_of
    empty_lines fits_from read_form read_parts read_rows kind_of read_line agreed read_numbers read_entry field_of number_of rest_of
starred_all = refl
