-- A form of samples, and texts of it that are read and written, computed: crates of two kinds, shelves that rise, an
-- end.
use mathlib.Core.Path.{◌≡◌, refl}
use mathlib.Core.Bool.{true}
use mathlib.Core.List.{List, [], ◌∷◌, map}
use Prim.Native.Nat.{ℕ}
use Prim.Native.String.{String}
use Rattle.text.specs.Quoted.{bytes}
use Rattle.text.specs.Field.{field_of, agreed}
use Rattle.text.specs.Number.{number_of, rest_of, digits_in, digits_of}
use Rattle.text.specs.Limit.{ranging, all_hold}
use Rattle.text.specs.Line.{Line, read_entry, read_numbers, read_line, numbers_text}
use Rattle.text.specs.Place.{feeds, since_feed}
use Rattle.form.specs.Parts.{Form, Rows, line_row, some_lines, rising_lines, one_line, maybe_line, kind_of}
use Rattle.form.specs.Outcome.{Verdict, right, wrong}
use Rattle.form.specs.Reading.{read_rows, read_parts, read_form}
use Rattle.form.specs.Writing.{rows_ok, part_ok, parts_ok, rows_text, parts_text, form_ok, form_text}

-- ---- the form

unfoldable pub round_line : Line
round_line = record { tag = bytes "ROUND\t"; limits = ranging 1 9 ∷ [] }

unfoldable pub square_line : Line
square_line = record { tag = bytes "SQUARE\t"; limits = ranging 1 9 ∷ ranging 1 9 ∷ [] }

unfoldable pub shelf_line : Line
shelf_line = record { tag = bytes "LEVEL\t"; limits = ranging 1 9 ∷ ranging 0 5 ∷ [] }

unfoldable pub note_line : Line
note_line = record { tag = bytes "NOTE\n"; limits = [] }

unfoldable pub end_line : Line
end_line = record { tag = bytes "END\n"; limits = [] }

-- one or two crates, up to three shelves, perhaps a note, the end; 61 bytes at most
unfoldable pub store : Form
store =
    record {
      parts =
          some_lines 1 2 (round_line ∷ square_line ∷ [])
          ∷ rising_lines 0 3 shelf_line
          ∷ maybe_line note_line
          ∷ one_line end_line
          ∷ [];
      room = 61;
    }

-- ---- what is read

rows : List Rows
rows =
    (line_row 83 (7 ∷ 8 ∷ []) ∷ line_row 82 (9 ∷ []) ∷ [])
    ∷ (line_row 76 (2 ∷ 0 ∷ []) ∷ line_row 76 (4 ∷ 5 ∷ []) ∷ [])
    ∷ []
    ∷ (line_row 69 [] ∷ [])
    ∷ []

text : List ℕ
text = bytes "SQUARE\t7\t8\nROUND\t9\nLEVEL\t2\t0\nLEVEL\t4\t5\nEND\n"

text_reads : read_form store text ≡ right rows
unfolding store round_line square_line shelf_line note_line end_line text rows
    read_form read_parts read_rows kind_of read_line read_numbers read_entry agreed field_of number_of rest_of
text_reads = refl

text_written : (form_text store rows ≡ text) × (form_ok store rows ≡ true)
unfolding store round_line square_line shelf_line note_line end_line text rows
    parts_text rows_text kind_of numbers_text digits_of digits_in parts_ok part_ok rows_ok all_hold
text_written = (refl, refl)

-- ---- what is refused, and where

readings : List String
readings =
    -- no crate; three; another letter, and a letter's line with another tag
    "END\n" ∷ "ROUND\t1\nROUND\t2\nROUND\t3\nEND\n" ∷ "BARREL\t1\nEND\n" ∷ "RING\t1\nEND\n"
    -- shelves: on one level, falling, in the limits' order; a fourth
    ∷ "ROUND\t1\nLEVEL\t2\t0\nLEVEL\t2\t0\nEND\n" ∷ "ROUND\t1\nLEVEL\t2\t0\nLEVEL\t1\t0\nEND\n"
    ∷ "ROUND\t1\nLEVEL\t10\t6\nEND\n"
    ∷ "ROUND\t1\nLEVEL\t1\t0\nLEVEL\t2\t0\nLEVEL\t3\t0\nLEVEL\t4\t0\n"
    -- a note, two of them; no end; more after it; nothing at all
    ∷ "ROUND\t1\nNOTE\nEND\n" ∷ "ROUND\t1\nNOTE\nNOTE\nEND\n" ∷ "ROUND\t1\n" ∷ "ROUND\t1\nEND\nEND\n" ∷ ""
    -- 61 bytes are read by their lines, 62 are not
    ∷ "ROUND\t1\nROUND\t1\nROUND\t1\nROUND\t1\nROUND\t1\nROUND\t1\nROUND\t1\nROUND"
    ∷ "ROUND\t1\nROUND\t1\nROUND\t1\nROUND\t1\nROUND\t1\nROUND\t1\nROUND\t1\nROUND\t"
    ∷ []

-- how a reading ended, whatever was said
unfoldable pub ended : Verdict (List Rows) → Verdict ℕ
ended (right v) = right 0
ended (wrong number line byte) = wrong number line byte

readings_right :
    map (λ (s : String). ended (read_form store (bytes s))) readings
    ≡ wrong 2 1 1 ∷ wrong 2 3 1 ∷ wrong 2 1 1 ∷ wrong 2 1 2
    ∷ wrong 3 3 7 ∷ wrong 3 3 7 ∷ wrong 3 2 7
    ∷ wrong 2 5 1
    ∷ right 0 ∷ wrong 2 3 1 ∷ wrong 2 2 1 ∷ wrong 2 3 1 ∷ wrong 2 1 1
    ∷ wrong 2 3 1 ∷ wrong 2 0 0
    ∷ []
unfolding store round_line square_line shelf_line note_line end_line readings ended feeds since_feed
    read_form read_parts read_rows kind_of read_line read_numbers read_entry agreed field_of number_of rest_of
readings_right = refl
