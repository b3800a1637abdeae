-- A day at the register, computed: two desks on one hull, a save that comes too late, trials, plates and a writing
-- between; and its serial list, spelled out and run. Oldest first.
use mathlib.Core.Path.{◌≡◌, refl}
use mathlib.Core.Bool.{Bool, true, false, cond}
use mathlib.Core.List.{List, [], ◌∷◌, ◌++◌, map}
use Prim.Native.Nat.{ℕ}
use Prim.Native.String.{String}
use lib.ListN.{replicate}
use Rattle.text.specs.Quoted.{bytes}
use Rattle.text.specs.Field.{field_of, agreed}
use Rattle.text.specs.Number.{rest_of, number_of, digits_in, digits_of}
use Rattle.text.specs.Limit.{all_hold}
use Rattle.text.specs.Line.{read_entry, read_numbers, read_line, numbers_text}
use Rattle.text.specs.Place.{feeds, since_feed}
use Rattle.answers.specs.Answer.{Refused, RefusedAt, Done, Count, Plate}
use Rattle.sheet.specs.Sheet.{fits_ok, ok_on}
use Rattle.form.specs.Parts.{kind_of, numbers_of}
use Rattle.form.specs.Reading.{read_rows, read_parts, read_form}
use Rattle.form.specs.Writing.{rows_text, parts_text}
use Rattle.sheet.specs.SheetText.{sheet_form, empty_lines, fits_from, fit_rows, fits_of, numbers_on, rows_on}
use Rattle.sheet.specs.SheetText.{read_sheet, sheet_text}
use Rattle.capacity.specs.Volume.{station_product, volume_n, net_z}
use Rattle.capacity.specs.Weights.{added_up, boat_m}
use Rattle.capacity.specs.PlateC.{exact_x, marked_c, rising, rows_right, row_for, lacks_row, engine_weight, live_load, persons}
use Rattle.capacity.specs.PlateC.{lacks_tests, plate_c}
use Rattle.capacity.specs.PlateA.{inboard_x, load_x, marked_a, formula_watts, power_a, plate_a}
use Rattle.capacity.specs.PlateU.{rule_u, marked_u, plate_u}
use Rattle.capacity.specs.Kinds.{kind_a, kind_c, kind_u}
use Rattle.memory.specs.Formed.{each, hull_ok, draft_ok, formed}
use Rattle.memory.specs.Updates.{fresh_words, entered, opened, fitted, replaced, dropped, saved}
use Rattle.register.specs.Refusals.{hull_refusal, desk_refusal, room_refusal, open_refusal}
use Rattle.memory.proofs.Changes.{fresh_changes}
use Rattle.register.proofs.Effects.{fresh_right_size}
use Rattle.sheet.proofs.BaseHull.{form, mass, power, seats, sheet_with}
use Rattle.register.specs.Calls.{set_fitting, replace, try_plate, plate, weigh, write}
use Rattle.register.specs.Calls.{Call, new_hull, open_hull, work, save, drop_draft, ask}
use Rattle.history.specs.Replies.{says, reply, next}
use Rattle.history.specs.Runs.{Event, ◌⇒◌, call}
use Rattle.history.specs.History.{role, block, by_letter, every_ask, spot, serial}
use Rattle.history.specs.InOrder.{transcript, order}
use Rattle.history.proofs.InOrder.{serial_in_order}

-- 01's hull, under a number, with fitting lines
unfoldable pub text : String → String → List ℕ
text number fits = sheet_with number form mass power seats (bytes fits ++ bytes "END\n")

abbrev entering : Event
entering = new_hull (text "HULL\t9\n" "") ⇒ says (Count 0)

abbrev faulty : Event
faulty = new_hull (bytes "HULL\t16\n") ⇒ says (RefusedAt 3 1 6)

-- the hull's text, with the fitting that desk 1 saved, into an output of three bytes more
abbrev writing : Event
writing =
    ask 0 (write (replicate 242 7)) ⇒
    record { answer = Count 239; output = text "HULL\t0\n" "FIT\t2\t1667\t2\n" ++ replicate 3 7 }

-- by an engine row whose weight, taken for its power, would not reach the declared power
abbrev trial_c : Event
trial_c = work 0 (try_plate (kind_c (20000 ∷ []) (15000 ∷ []))) ⇒ says (Plate 325 3)

abbrev weighs : ℕ → Event
weighs grams = ask 0 weigh ⇒ says (Count grams)

unfoldable pub day : List Event
day =
    entering
    ∷ (open_hull 0 0 ⇒ says (Count 0)) ∷ (open_hull 1 0 ⇒ says (Count 0))
    ∷ (work 1 (set_fitting 2 1667 2) ⇒ says Done) ∷ (work 0 (set_fitting 1 500 1) ⇒ says Done)
    ∷ (ask 0 (plate kind_a) ⇒ says (Plate 327 20000)) ∷ (ask 0 (plate kind_u) ⇒ says (Count 720)) ∷ weighs 200000
    ∷ (work 1 (try_plate kind_a) ⇒ says (Plate 326 20000)) ∷ (work 1 (try_plate kind_u) ⇒ says (Count 718))
    ∷ (save 1 ⇒ says (Count 1)) ∷ (ask 0 (plate kind_a) ⇒ says (Plate 326 20000))
    ∷ (ask 0 (plate kind_u) ⇒ says (Count 718)) ∷ weighs 203334
    -- desk 0 is behind, and opens anew; meanwhile desk 3 opens too
    ∷ (save 0 ⇒ says (Refused 8)) ∷ (open_hull 0 0 ⇒ says (Count 1)) ∷ (open_hull 3 0 ⇒ says (Count 1))
    ∷ (work 0 (set_fitting 1 0 0) ⇒ says (Refused 17)) ∷ (work 0 (set_fitting 25 7 1) ⇒ says (Refused 3)) ∷ trial_c
    ∷ writing ∷ (work 0 (set_fitting 2 0 0) ⇒ says Done) ∷ (save 0 ⇒ says (Count 2))
    -- desk 3 is behind, and gives up
    ∷ (save 3 ⇒ says (Refused 8)) ∷ (drop_draft 3 ⇒ says Done) ∷ (save 3 ⇒ says (Refused 7))
    ∷ faulty ∷ (ask 1 (plate kind_a) ⇒ says (Refused 5)) ∷ (ask 0 (plate kind_a) ⇒ says (Plate 327 20000))
    ∷ (ask 1 weigh ⇒ says (Refused 5)) ∷ weighs 200000
    -- desk 2 takes another sheet, and sets a line of it
    ∷ (open_hull 2 0 ⇒ says (Count 2)) ∷ (work 2 (replace (text "HULL\t9\n" "FIT\t3\t10\t7\n")) ⇒ says Done)
    ∷ (work 2 (set_fitting 3 5 4) ⇒ says Done) ∷ weighs 200000 ∷ (save 2 ⇒ says (Count 3)) ∷ weighs 200020
    ∷ []

serial_day : List Event
serial_day =
    entering
    ∷ (ask 0 (plate kind_a) ⇒ says (Plate 327 20000)) ∷ (ask 0 (plate kind_u) ⇒ says (Count 720)) ∷ weighs 200000
    -- desk 1's block, at its save's place, its trials among its calls
    ∷ (open_hull 1 0 ⇒ says (Count 0)) ∷ (work 1 (set_fitting 2 1667 2) ⇒ says Done)
    ∷ (work 1 (try_plate kind_a) ⇒ says (Plate 326 20000)) ∷ (work 1 (try_plate kind_u) ⇒ says (Count 718))
    ∷ (save 1 ⇒ says (Count 1))
    ∷ (ask 0 (plate kind_a) ⇒ says (Plate 326 20000)) ∷ (ask 0 (plate kind_u) ⇒ says (Count 718)) ∷ weighs 203334
    ∷ writing
    -- desk 0's second draft; its first is left out
    ∷ (open_hull 0 0 ⇒ says (Count 1)) ∷ (work 0 (set_fitting 1 0 0) ⇒ says (Refused 17))
    ∷ (work 0 (set_fitting 25 7 1) ⇒ says (Refused 3)) ∷ trial_c
    ∷ (work 0 (set_fitting 2 0 0) ⇒ says Done) ∷ (save 0 ⇒ says (Count 2))
    ∷ faulty ∷ (ask 1 (plate kind_a) ⇒ says (Refused 5)) ∷ (ask 0 (plate kind_a) ⇒ says (Plate 327 20000))
    ∷ (ask 1 weigh ⇒ says (Refused 5)) ∷ weighs 200000 ∷ weighs 200000
    -- desk 2's block
    ∷ (open_hull 2 0 ⇒ says (Count 2)) ∷ (work 2 (replace (text "HULL\t9\n" "FIT\t3\t10\t7\n")) ⇒ says Done)
    ∷ (work 2 (set_fitting 3 5 4) ⇒ says Done) ∷ (save 2 ⇒ says (Count 3)) ∷ weighs 200020
    ∷ []

-- the day is as it says
a_day : transcript fresh_words (map call day) ≡ day
unfolding transcript reply next day text fresh_words entered opened fitted replaced dropped saved each
    hull_ok draft_ok formed hull_refusal desk_refusal room_refusal open_refusal read_sheet sheet_form numbers_on
    numbers_of fits_of empty_lines fits_from read_form read_parts read_rows kind_of read_line agreed read_numbers read_entry
    field_of number_of rest_of feeds since_feed all_hold ok_on fits_ok sheet_text rows_on fit_rows
    parts_text rows_text numbers_text digits_of digits_in station_product volume_n net_z added_up boat_m exact_x marked_c rising
    rows_right row_for lacks_row engine_weight live_load persons lacks_tests plate_c inboard_x load_x marked_a formula_watts
    power_a plate_a rule_u marked_u plate_u
a_day = refl

-- its serial list is this one; and by the demand's letter the same without the questions after the weight
unweighed : List Event → List Event
unweighed [] = []
unweighed ((c ⇒ r) ∷ es) = cond (asks_weight c) (unweighed es) ((c ⇒ r) ∷ unweighed es)
  where
    asks_weight : Call → Bool
    asks_weight (new_hull t) = false
    asks_weight (open_hull d h) = false
    asks_weight (work d w) = false
    asks_weight (save d) = false
    asks_weight (drop_draft d) = false
    asks_weight (ask h q) = elim q [ plate k ↦ false | weigh ↦ true | write out ↦ false ]

a_day_in_order : (order every_ask day ≡ serial_day) × (order by_letter day ≡ unweighed serial_day)
unfolding order serial spot block role day serial_day unweighed
a_day_in_order = (refl, refl)

-- and that list, run from fresh, has the same replies, as demand 3 says
a_day_again : transcript fresh_words (map call serial_day) ≡ serial_day
a_day_again =
    let size = fresh_changes.size in
    let g = (serial_in_order fresh_words every_ask (map call day) size).replies in
    rw ((fresh_right_size fresh_words size).1, a_day, a_day_in_order.0) at g
