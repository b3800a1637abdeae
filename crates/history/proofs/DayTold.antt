-- What the day's history tells by itself, computed: saves, and the weight of its hull.
use mathlib.Core.Path.{◌≡◌, refl}
use mathlib.Core.Bool.{false}
use mathlib.Core.List.{[], ◌∷◌, map, reverse}
use lib.IntN.{pos, negsuc}
use lib.ListN.{take, replicate}
use Rattle.text.specs.Field.{field_of, agreed}
use Rattle.text.specs.Number.{rest_of, number_of}
use Rattle.text.specs.Limit.{all_hold}
use Rattle.text.specs.Line.{read_entry, read_numbers, read_line}
use Rattle.form.specs.Parts.{kind_of, numbers_of}
use Rattle.form.specs.Reading.{read_rows, read_parts, read_form}
use Rattle.sheet.specs.SheetText.{sheet_form, empty_lines, fits_from, fits_of, numbers_on, read_sheet}
use Rattle.capacity.specs.Weights.{added_up, boat_m}
use Rattle.answers.specs.Answer.{Answer}
use Rattle.answers.specs.Answer.{Refused, RefusedAt, Done, Count, Plate}
use Rattle.register.specs.Calls.{weigh, new_hull, open_hull, save, drop_draft, ask}
use Rattle.history.specs.Replies.{says}
use Rattle.history.specs.Runs.{Event, ◌⇒◌}
use Rattle.history.specs.History.{role, block}
use Rattle.history.specs.Told.{opening, is_save_of, saves_of, quiet_since, redo}
use Rattle.history.specs.Weights.{no_mark, mark, sheet_told, moves, block_moves, entered_weight, differences}
use Rattle.history.specs.Weights.{together, weight_told}
use Rattle.history.proofs.Day.{text, day}

-- hull 0 has had three accepted saves, though six were tried
a_day_counted : saves_of 0 (reverse day) ≡ 3
unfolding saves_of is_save_of opening role day
a_day_counted = refl

-- when desk 0 came to save first, after fourteen calls, desk 1 had saved
a_day_late : quiet_since 0 0 (reverse (take 14 day)) ≡ false
unfolding quiet_since is_save_of opening role day
a_day_late = refl

-- it weighed 200000 g when it was entered; the saves took 3334 g on and off, and then 70 g on, of which a set line took
-- 50 g off again
a_day_weighed :
    (entered_weight 0 (reverse day) ≡ 200000)
    × (differences 0 (reverse day) ≡ pos 20 ∷ negsuc 3333 ∷ pos 3334 ∷ [])
    × (weight_told 0 (reverse day) ≡ pos 200020)
unfolding entered_weight differences together mark sheet_told block_moves redo is_save_of opening role block day text
    read_sheet sheet_form numbers_on numbers_of fits_of empty_lines fits_from read_form read_parts read_rows kind_of read_line
    agreed read_numbers read_entry field_of number_of rest_of all_hold added_up boat_m
a_day_weighed = (refl, refl, refl)

-- a hull that was not entered has no weight, no difference and no sheet
none_told :
    (entered_weight 1 (reverse day) ≡ 0) × (differences 1 (reverse day) ≡ []) × (sheet_told 1 (reverse day) ≡ [])
unfolding entered_weight differences mark sheet_told is_save_of opening role block day
none_told = (refl, refl, refl)

-- nothing but work moves a weight
moves_none :
    map (λ (e : Event). moves e (1 ∷ []))
    ((new_hull [] ⇒ says (Count 0)) ∷ (open_hull 0 0 ⇒ says (Count 0)) ∷ (save 0 ⇒ says (Count 1))
    ∷ (drop_draft 0 ⇒ says Done) ∷ (ask 0 weigh ⇒ says (Count 1)) ∷ [])
    ≡ replicate 5 (pos 0)
moves_none = refl

-- a new hull is the hull of the number that it was answered, and of no other answer
marks_none :
    map (λ (a : Answer). mark 3 (new_hull [] ⇒ says a) [])
    (Refused 3 ∷ RefusedAt 3 3 3 ∷ Done ∷ Count 4 ∷ Plate 3 3 ∷ [])
    ≡ replicate 5 no_mark
unfolding mark
marks_none = refl
