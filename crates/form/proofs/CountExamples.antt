-- A form of samples with lines of which a number may be left out, and texts of it that are read and written, computed:
-- lots that rise, each of a weight and perhaps how many of it, and an end.
use mathlib.Core.Path.{◌≡◌, refl}
use mathlib.Core.Bool.{true, false}
use mathlib.Core.List.{List, [], ◌∷◌, map}
use Prim.Native.Nat.{ℕ}
use Prim.Native.String.{String}
use Rattle.text.specs.Quoted.{bytes}
use Rattle.text.specs.Field.{field_of, agreed}
use Rattle.text.specs.Number.{number_of, rest_of, digits_in, digits_of}
use Rattle.text.specs.Limit.{ranging, ranging_count, all_hold}
use Rattle.text.specs.Line.{Line, read_entry, read_numbers, read_line, numbers_text}
use Rattle.text.specs.Place.{feeds, since_feed}
use Rattle.form.specs.Parts.{Form, Rows, line_row, rising_lines, one_line, kind_of}
use Rattle.form.specs.Outcome.{right, wrong}
use Rattle.form.specs.Reading.{read_rows, read_parts, read_form}
use Rattle.form.specs.Writing.{rows_ok, part_ok, parts_ok, rows_text, parts_text, form_ok, form_text}
use Rattle.form.proofs.Examples.{end_line, ended}

-- ---- the form

unfoldable pub lot_line : Line
lot_line = record { tag = bytes "LOT\t"; limits = ranging 1 24 ∷ ranging 1 500 ∷ ranging_count 1 9 500 ∷ [] }

-- up to two lots, the end; 30 bytes at most
unfoldable pub yard : Form
yard = record { parts = rising_lines 0 2 lot_line ∷ one_line end_line ∷ []; room = 30 }

-- ---- what is read

rows : List Rows
rows = (line_row 76 (2 ∷ 500 ∷ []) ∷ line_row 76 (3 ∷ 55 ∷ 9 ∷ []) ∷ []) ∷ (line_row 69 [] ∷ []) ∷ []

text : List ℕ
text = bytes "LOT\t2\t500\nLOT\t3\t55\t9\nEND\n"

text_reads : read_form yard text ≡ right rows
unfolding yard lot_line end_line text rows
    read_form read_parts read_rows kind_of read_line read_numbers read_entry agreed field_of number_of rest_of
text_reads = refl

text_written : (form_text yard rows ≡ text) × (form_ok yard rows ≡ true)
unfolding yard lot_line end_line text rows
    parts_text rows_text kind_of numbers_text digits_of digits_in parts_ok part_ok rows_ok all_hold
text_written = (refl, refl)

-- a weight left out too; a number too many; too much together
rows_refused :
    map (λ (ns : List ℕ). form_ok yard ((line_row 76 ns ∷ []) ∷ (line_row 69 [] ∷ []) ∷ []))
    ((2 ∷ []) ∷ (2 ∷ 50 ∷ 1 ∷ 1 ∷ []) ∷ (2 ∷ 56 ∷ 9 ∷ []) ∷ [])
    ≡ false ∷ false ∷ false ∷ []
unfolding yard lot_line end_line kind_of parts_ok part_ok rows_ok all_hold
rows_refused = refl

-- ---- what is refused, and where

readings : List String
readings =
    -- a weight left out too; an empty count; a number too many
    "LOT\t2\nEND\n" ∷ "LOT\t2\t50\t\nEND\n" ∷ "LOT\t2\t50\t1\t1\nEND\n"
    -- a weight outside, with either end; a count outside, and too much together
    ∷ "LOT\t2\t501\nEND\n" ∷ "LOT\t2\t501\t1\nEND\n" ∷ "LOT\t2\t50\t0\nEND\n" ∷ "LOT\t2\t56\t9\nEND\n"
    -- on one level, after a line with a count and after one without
    ∷ "LOT\t2\t50\t1\nLOT\t2\t50\nEND\n" ∷ "LOT\t2\t50\nLOT\t2\t50\t1\nEND\n"
    -- text that stops after the weight, after the tab, and after the line
    ∷ "LOT\t2\t50" ∷ "LOT\t2\t50\t" ∷ "LOT\t2\t50\n"
    ∷ []

readings_right :
    map (λ (s : String). ended (read_form yard (bytes s))) readings
    ≡ wrong 2 1 6 ∷ wrong 2 1 10 ∷ wrong 2 1 11
    ∷ wrong 3 1 7 ∷ wrong 3 1 7 ∷ wrong 3 1 10 ∷ wrong 3 1 10
    ∷ wrong 3 2 5 ∷ wrong 3 2 5
    ∷ wrong 2 1 9 ∷ wrong 2 1 10 ∷ wrong 2 2 1
    ∷ []
unfolding yard lot_line end_line readings ended feeds since_feed
    read_form read_parts read_rows kind_of read_line read_numbers read_entry agreed field_of number_of rest_of
readings_right = refl
