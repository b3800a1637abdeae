-- 02 (xi), a variant's text, as a form of its own: VOL, MASS, PWR and SEAT may each be left out. HULL, FORM and the STN
-- lines before them, the FIT lines and END after them are as in every sheet's text.
use Rattle.std.specs.Prelude.{ℕ, List, [], ◌∷◌, take, drop}
use Rattle.text.specs.Line.{Line}
use Rattle.form.specs.Parts.{Part, Form, Rows, maybe_line}
use Rattle.form.specs.Outcome.{Verdict, saying}
use Rattle.form.specs.Reading.{read_form}
use Rattle.sheet.specs.Lines.{lines, most_bytes}
use Rattle.sheet.specs.SheetText.{each_once, last_parts}

-- how many lines come before those that may be left out: HULL, FORM and four STN
abbrev pub own_count : ℕ
own_count = 6

-- the lines that are always the variant's own
abbrev pub own_lines : List Line
own_lines = take own_count lines

-- the lines that are handed on from the parent where the variant leaves them out: VOL, MASS, PWR and SEAT
abbrev pub handed_lines : List Line
handed_lines = drop own_count lines

-- a part for each of the lines, once or not at all, and then ps
abbrev pub each_maybe : List Line → List Part → List Part
each_maybe [] ps = ps
each_maybe (l ∷ ls) ps = maybe_line l ∷ each_maybe ls ps

unfoldable pub variant_form : Form
variant_form = record { parts = each_once own_lines (each_maybe handed_lines last_parts); room = most_bytes }

-- what a variant's text says by itself: the rows of each part, none for a line that is left out
unfoldable pub read_variant : List ℕ → Verdict (List Rows)
read_variant t = saying (λ (v : List Rows). v) (read_form variant_form t)
