-- Calls on memories that are well formed, computed: each end of a number and one beside it, every two refusals at once.
use mathlib.Core.Path.{◌≡◌, refl}
use mathlib.Core.List.{List, [], ◌∷◌, ◌++◌, map}
use Prim.Native.Nat.{ℕ}
use lib.ListN.{replicate}
use Rattle.text.specs.Field.{field_of, agreed}
use Rattle.text.specs.Number.{rest_of, number_of, digits_in, digits_of}
use Rattle.text.specs.Limit.{all_hold}
use Rattle.text.specs.Line.{read_entry, read_numbers, read_line, numbers_text}
use Rattle.text.specs.Place.{feeds, since_feed}
use Rattle.answers.specs.Answer.{Refused, RefusedAt, Done, Count, Plate}
use Rattle.form.specs.Parts.{kind_of, numbers_of}
use Rattle.form.specs.Reading.{read_rows, read_parts, read_form}
use Rattle.form.specs.Writing.{rows_text, parts_text}
use Rattle.sheet.specs.Sheet.{fits_ok, ok_on}
use Rattle.sheet.specs.SheetText.{sheet_form, empty_lines, fits_from, fit_rows, fits_of, numbers_on, rows_on}
use Rattle.sheet.specs.SheetText.{read_sheet, sheet_text}
use Rattle.capacity.specs.Volume.{station_product, volume_n, net_z}
use Rattle.capacity.specs.Weights.{added_up, boat_m}
use Rattle.capacity.specs.PlateC.{exact_x, marked_c, rising, rows_right, row_for, lacks_row, engine_weight}
use Rattle.capacity.specs.PlateC.{live_load, persons, lacks_tests, plate_c}
use Rattle.capacity.specs.PlateA.{inboard_x, load_x, marked_a, formula_watts, power_a, plate_a}
use Rattle.capacity.specs.PlateU.{rule_u, marked_u, plate_u}
use Rattle.capacity.specs.Kinds.{kind_a, kind_c, kind_u}
use Rattle.memory.specs.Formed.{each, hull_ok, draft_ok, formed}
use Rattle.memory.proofs.Memories.{sheet, hulls, draft, idle, full}
use Rattle.register.specs.Refusals.{room_refusal, hull_refusal, open_refusal, desk_refusal}
use Rattle.register.specs.Calls.{set_fitting, replace, try_plate, plate, weigh, write}
use Rattle.register.specs.Calls.{new_hull, open_hull, work, save, drop_draft, ask, fresh_step, step}
use Rattle.register.proofs.Wanted.{alike, agree, as_wanted}
use Rattle.register.proofs.Day.{Must, ◌must◌, wanted, answered}
use Rattle.register.proofs.Unformed.{small}

-- ---- memories that are well formed

-- a text that is a sheet's, and one with a number outside its limits
text : List ℕ
text = sheet_text (9 ∷ sheet)

outside : List ℕ
outside = sheet_text (16 ∷ sheet)

-- a desk whose draft has ended: its words are free, its weight too
ended : ℕ → ℕ → List ℕ
ended hull number = 0 ∷ hull ∷ number ∷ 1 ∷ sheet

-- fifteen hulls, and no draft
fifteen : List ℕ
fifteen = 15 ∷ (hulls 16 0 ++ idle 8)

-- hull 0 at edit number 65534 and hull 1 at 65535; desks 4 and 5 have them as they stood one save before, 6 and 7 as
-- they stand; on desks 2 and 3 such drafts have ended
edited : List ℕ
edited =
    2 ∷ (hulls 1 65534 ++ (hulls 1 65535 ++ (replicate 1316 99 ++ (idle 2 ++ (ended 0 65533 ++ (ended 1 65535
    ++ (draft 0 65533 ++ (draft 1 65534 ++ (draft 0 65534 ++ draft 1 65535)))))))))

-- a 17th hull, whatever its text; a 16th; hulls 15 and 16 of sixteen
on_full : List Must
on_full =
    (new_hull text must Refused 4) ∷ (new_hull [] must Refused 4) ∷ (new_hull outside must Refused 4)
    ∷ (open_hull 7 15 must Count 65535) ∷ (open_hull 7 16 must Refused 5)
    ∷ (ask 15 weigh must Count 203334) ∷ (ask 16 weigh must Refused 5)
    ∷ (ask 15 (write (replicate 240 7)) must Count 240) ∷ (ask 15 (write (replicate 239 7)) must Refused 16)
    ∷ []

on_fifteen : List Must
on_fifteen = (new_hull text must Count 15) ∷ []

-- edit numbers 65534, 65535; a draft behind, of a hull that can be saved and of one that cannot; no draft; no desk
on_edited : List Must
on_edited =
    (save 6 must Count 65535) ∷ (save 7 must Refused 9) ∷ (save 4 must Refused 8) ∷ (save 5 must Refused 8)
    ∷ (save 2 must Refused 7) ∷ (save 3 must Refused 7) ∷ (save 8 must Refused 6)
    ∷ (work 3 (set_fitting 24 0 0) must Refused 7)
    ∷ []

on_small : List Must
on_small =
    -- texts
    (new_hull [] must RefusedAt 2 1 1) ∷ (new_hull outside must RefusedAt 3 1 6) ∷ (work 7 (replace text) must Done)
    ∷ (work 7 (replace []) must RefusedAt 2 1 1) ∷ (work 7 (replace outside) must RefusedAt 3 1 6)
    ∷ (work 6 (replace []) must Refused 7) ∷ (work 6 (replace outside) must Refused 7)
    ∷ (work 8 (replace []) must Refused 6) ∷ (work 8 (replace outside) must Refused 6)
    -- desks 7 and 8; a hull that is not entered
    ∷ (open_hull 7 0 must Count 0) ∷ (open_hull 8 0 must Refused 6) ∷ (open_hull 7 1 must Refused 5)
    ∷ (open_hull 8 1 must Refused 6) ∷ (drop_draft 7 must Done) ∷ (drop_draft 6 must Refused 7)
    ∷ (drop_draft 8 must Refused 6)
    -- plates: the desk, its draft and the hull before the rows
    ∷ (work 7 (try_plate kind_a) must Plate 326 20000) ∷ (work 7 (try_plate (kind_c [] [])) must Refused 10)
    ∷ (work 6 (try_plate (kind_c [] [])) must Refused 7) ∷ (work 8 (try_plate (kind_c [] [])) must Refused 6)
    ∷ (work 6 (try_plate kind_a) must Refused 7) ∷ (work 6 (try_plate kind_u) must Refused 7)
    ∷ (ask 0 (plate kind_u) must Count 718) ∷ (ask 0 (plate (kind_c [] [])) must Refused 10)
    ∷ (ask 1 (plate (kind_c [] [])) must Refused 5) ∷ (ask 1 (plate kind_a) must Refused 5)
    ∷ (ask 1 (plate kind_u) must Refused 5)
    -- the boat's weight
    ∷ (ask 0 weigh must Count 203334) ∷ (ask 1 weigh must Refused 5)
    -- a text of 239 bytes
    ∷ (ask 0 (write (replicate 239 7)) must Count 239) ∷ (ask 0 (write (replicate 238 7)) must Refused 16)
    ∷ (ask 1 (write (replicate 238 7)) must Refused 5)
    ∷ []

calls_right :
    (answered full on_full ≡ map wanted on_full) × (answered fifteen on_fifteen ≡ map wanted on_fifteen)
    × (answered edited on_edited ≡ map wanted on_edited) × (answered small on_small ≡ map wanted on_small)
unfolding alike agree
    answered on_full on_fifteen on_edited on_small text outside ended small fifteen edited full sheet hulls
    draft idle formed each hull_ok draft_ok hull_refusal desk_refusal room_refusal open_refusal read_sheet sheet_form
    numbers_on numbers_of fits_of empty_lines fits_from read_form read_parts read_rows kind_of read_line agreed read_numbers
    read_entry field_of number_of rest_of feeds since_feed all_hold ok_on fits_ok sheet_text rows_on fit_rows parts_text rows_text
    numbers_text digits_of digits_in station_product volume_n net_z added_up boat_m exact_x marked_c rising rows_right row_for
    lacks_row engine_weight live_load persons lacks_tests plate_c inboard_x load_x marked_a formula_watts power_a plate_a rule_u
    marked_u plate_u
calls_right = (
  as_wanted (answered full on_full) (map wanted on_full) refl,
  as_wanted (answered fifteen on_fifteen) (map wanted on_fifteen) refl,
  as_wanted (answered edited on_edited) (map wanted on_edited) refl,
  as_wanted (answered small on_small) (map wanted on_small) refl,
)

-- fresh start looks at the size alone
fresh_right : map (λ (n : ℕ). (fresh_step (replicate n 99)).answer) (2272 ∷ 2273 ∷ 2274 ∷ [])
    ≡ Refused 1 ∷ Done ∷ Refused 1 ∷ []
fresh_right = refl

-- a hull is written under its own number, and nothing is touched beyond its text
written_right :
    ((step small (ask 0 (write (replicate 242 7)))).output ≡ sheet_text (0 ∷ sheet) ++ replicate 3 7)
    × ((step full (ask 15 (write (replicate 242 7)))).output ≡ sheet_text (15 ∷ sheet) ++ replicate 2 7)
    × ((step full (ask 15 (write (replicate 239 7)))).output ≡ replicate 239 7)
unfolding small full sheet hulls draft idle formed each hull_ok draft_ok hull_refusal all_hold ok_on fits_ok boat_m added_up
    sheet_text sheet_form rows_on fit_rows parts_text rows_text kind_of numbers_text digits_of digits_in
written_right = (refl, refl, refl)
