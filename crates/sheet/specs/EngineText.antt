-- 01, The sheet, on engine rows, as a form of text: ENG lines, one at least and forty at most, whose powers rise.
use Rattle.std.specs.Prelude.{ℕ, Bool, List, [], ◌∷◌, map, get_or}
use Rattle.form.specs.Parts.{Part, Form, Row, Rows, line_row, rising_lines, letter_of}
use Rattle.form.specs.Outcome.{Verdict, saying}
use Rattle.form.specs.Reading.{read_form}
use Rattle.form.specs.Writing.{form_ok, form_text}
use Rattle.sheet.specs.Lines.{engine_line, most_rows, most_bytes}

abbrev pub engine_part : Part
engine_part = rising_lines 1 most_rows engine_line

unfoldable pub engine_form : Form
engine_form = record { parts = engine_part ∷ []; room = most_bytes }

-- the rows of the one part
abbrev pub only_rows : List Rows → Rows
only_rows [] = []
only_rows (rs ∷ v) = rs

-- ---- the rows' two columns

abbrev pub powers_of : Rows → List ℕ
powers_of rs = map (λ (r : Row). get_or r.numbers 0 0) rs

abbrev pub weights_of : Rows → List ℕ
weights_of rs = map (λ (r : Row). get_or r.numbers 1 0) rs

-- the rows of two columns, as far as there are both
unfoldable pub engine_rows : List ℕ → List ℕ → Rows
engine_rows [] ws = []
engine_rows (p ∷ ps) [] = []
engine_rows (p ∷ ps) (w ∷ ws) = line_row (letter_of engine_line) (p ∷ w ∷ []) ∷ engine_rows ps ws

-- ---- reading and writing

-- whether rows are within the limits, one to forty of them, and their powers rise
abbrev pub engines_ok : Rows → Bool
engines_ok rs = form_ok engine_form (rs ∷ [])

unfoldable pub read_engines : List ℕ → Verdict Rows
read_engines t = saying only_rows (read_form engine_form t)

unfoldable pub engines_text : List ℕ → List ℕ → List ℕ
engines_text ps ws = form_text engine_form (engine_rows ps ws ∷ [])
