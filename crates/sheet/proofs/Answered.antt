-- What the calls on texts answer, computed: accepted, refused, and with two refusals at once.
use mathlib.Core.Path.{◌≡◌, refl}
use mathlib.Core.List.{List, [], ◌∷◌, ◌++◌, map}
use Prim.Native.Nat.{ℕ}
use lib.ListN.{replicate}
use Rattle.text.specs.Quoted.{bytes}
use Rattle.text.specs.Field.{field_of, agreed}
use Rattle.text.specs.Number.{rest_of, number_of, digits_in, digits_of}
use Rattle.text.specs.Limit.{all_hold}
use Rattle.text.specs.Line.{read_entry, read_numbers, read_line, numbers_text}
use Rattle.text.specs.Place.{feeds, since_feed}
use Rattle.answers.specs.Answer.{Answer}
use Rattle.answers.specs.Answer.{Refused, RefusedAt, Done, Count}
use Rattle.form.specs.Parts.{kind_of}
use Rattle.form.specs.Outcome.{right, wrong}
use Rattle.form.specs.Reading.{read_rows, read_parts, read_form}
use Rattle.form.specs.Writing.{rows_text, parts_text}
use Rattle.sheet.specs.Sheet.{fits_ok, ok_on}
use Rattle.sheet.specs.SheetText.{sheet_form, fit_rows, rows_on, sheet_text}
use Rattle.sheet.specs.EngineText.{engine_form, read_engines}
use Rattle.sheet.specs.TextCalls.{read_answer, write_answer, engines_answer}

-- a refusal of a text with its place
read_right :
    map read_answer (right [] ∷ wrong 2 35 1 ∷ wrong 3 10 6 ∷ [])
    ≡ Done ∷ RefusedAt 2 35 1 ∷ RefusedAt 3 10 6 ∷ []
read_right = refl

-- the least sheet there is, under a hull number, and its text of 156 bytes
least : ℕ → List ℕ
least hull = hull ∷ 2000 ∷ 2000 ∷ 500 ∷ 200 ∷ (replicate 33 0 ++ (1 ∷ 0 ∷ 0 ∷ 0 ∷ 0 ∷ 1 ∷ replicate 49 0))

-- room enough, a byte too little; a sheet outside the limits, with room and without
write_right :
    map (λ (room : ℕ). write_answer (least 0) room) (156 ∷ 155 ∷ [])
    ++ map (λ (room : ℕ). write_answer (least 16) room) (200 ∷ 0 ∷ [])
    ≡ Count 156 ∷ Refused 16 ∷ Refused 3 ∷ Refused 3 ∷ []
unfolding least all_hold ok_on fits_ok sheet_text sheet_form rows_on fit_rows
    parts_text rows_text kind_of numbers_text digits_of digits_in
write_right = refl

-- engine rows into two slices of so many words
rows : List ℕ → ℕ → ℕ → Answer
rows t a b = engines_answer (read_engines t) a b

-- two rows with room, and with too little in either slice; a text at fault and no room
engines_answered :
    rows (bytes "ENG\t1\t0\nENG\t2\t0\n") 2 2
    ∷ rows (bytes "ENG\t1\t0\nENG\t2\t0\n") 1 2 ∷ rows (bytes "ENG\t1\t0\nENG\t2\t0\n") 2 1
    ∷ rows [] 0 0 ∷ rows (bytes "ENG\t1\t0\nENG\t0\t0\n") 0 0 ∷ []
    ≡ Count 2 ∷ Refused 16 ∷ Refused 16 ∷ RefusedAt 2 1 1 ∷ RefusedAt 3 2 5 ∷ []
unfolding rows read_engines engine_form read_form read_parts read_rows kind_of
    read_line agreed read_numbers read_entry field_of number_of rest_of feeds since_feed
engines_answered = refl
