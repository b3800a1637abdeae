-- 01, Sample sheets, on what the program prints: a line for plate A and one for plate C, or one line for an input at
-- fault, of the sheet before the engine rows. As in a sheet, tabs part the fields and a line feed ends the line.
-- 02 (v): a fault's line and byte come after its number; lines are counted in each of the two texts from 1.
use Rattle.std.specs.Prelude.{ℕ, cond, List, [], ◌∷◌, ◌++◌, leb, ltb, length, drop, replicate}
use Rattle.text.specs.Quoted.{bytes}
use Rattle.text.specs.Limit.{ranging}
use Rattle.text.specs.Line.{Line, line_text}
use Rattle.answers.specs.Refusals.{broken_line, no_room}
use Rattle.answers.specs.Answer.{Answer}
use Rattle.answers.specs.Answer.{Refused, RefusedAt, Done, Count, Plate}
use Rattle.form.specs.Outcome.{right, wrong}
use Rattle.sheet.specs.SheetText.{read_sheet}
use Rattle.sheet.specs.EngineText.{read_engines, powers_of, weights_of}
use Rattle.ground.specs.Lists.{put_first}
use Rattle.capacity.specs.Kinds.{kind_a, kind_c, plate_of}
use Rattle.printout.specs.Input.{most_input, sheet_part, engine_part}

-- a line of so many figures after its tag; a figure is any number of 32 bits
abbrev pub figures : List ℕ → ℕ → Line
figures tag count = record { tag = tag; limits = replicate count (ranging 0 4294967295) }

abbrev pub input_text : ℕ → ℕ → ℕ → List ℕ
input_text number line byte = line_text (figures (bytes "INPUT\t") 3) (number ∷ line ∷ byte ∷ [])

-- a plate's line, by the tags of a marked and of a refused one; plates A and C are one or the other
abbrev pub plate_text : List ℕ → List ℕ → Answer → List ℕ
plate_text marked refused (Plate load figure) = line_text (figures marked 2) (load ∷ figure ∷ [])
plate_text marked refused (Refused number) = line_text (figures refused 1) (number ∷ [])
plate_text marked refused (RefusedAt number line byte) = []
plate_text marked refused Done = []
plate_text marked refused (Count n) = []

unfoldable pub plates_text : List ℕ → List ℕ → List ℕ → List ℕ
plates_text s ps ws =
    plate_text (bytes "PLATE\tA\t") (bytes "REFUSED\tA\t") (plate_of kind_a s)
    ++ plate_text (bytes "PLATE\tC\t") (bytes "REFUSED\tC\t") (plate_of (kind_c ps ws) s)

-- of a sheet's words and the bytes after it
unfoldable pub rows_printed : List ℕ → List ℕ → List ℕ
rows_printed s t =
    elim (read_engines t) [
      | right rows ↦ plates_text s (powers_of rows) (weights_of rows)
      | wrong number line byte ↦ input_text number line byte
    ]

-- what is printed of an input; the HULL number is not used
unfoldable pub printed : List ℕ → List ℕ
printed t =
    cond (ltb most_input (length t)) (input_text broken_line 0 0)
    (elim (read_sheet (sheet_part t)) [
      | right s ↦ rows_printed (drop 1 s) (engine_part t)
      | wrong number line byte ↦ input_text number line byte
    ])

-- ---- the call, into a lent buffer

unfoldable pub print_answer : List ℕ → ℕ → Answer
print_answer t room = cond (leb (length (printed t)) room) (Count (length (printed t))) (Refused no_room)

unfoldable pub print_into : List ℕ → List ℕ → List ℕ
print_into t before = cond (leb (length (printed t)) (length before)) (put_first (printed t) before) before
