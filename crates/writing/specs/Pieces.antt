-- A sheet's text is laid piece after piece: line by line, then the fittings, then END.
use Rattle.std.specs.Prelude.{ℕ, ◌+◌, ◌-◌, ◌≤◌, ◌≡◌, true, false, eqb, List, [], ◌∷◌, ◌++◌, length, take, drop}
use Rattle.text.specs.Line.{Line, line_of}
use Rattle.form.specs.Writing.{rows_text, parts_text}
use Rattle.sheet.specs.declared.TheConstants.{SHEET_TEXT}
use Rattle.sheet.specs.Lines.{lines}
use Rattle.sheet.specs.Sheet.{limit_rows}
use Rattle.sheet.specs.Places.{fittings_at, text_words}
use Rattle.sheet.specs.SheetText.{fit_part, fit_rows, each_once, rows_on, sheet_text, last_parts}

-- the line of a tag and of the numbers from..to of a sheet
abbrev pub line_from : List ℕ → ℕ → ℕ → Line
line_from tag from to = line_of tag (take (to - from) (drop from limit_rows))

-- those of some lines whose numbers start n places after the first
abbrev pub lines_at : ℕ → List Line → List Line
lines_at n [] = []
lines_at n (l ∷ ls) = elim (eqb n 0) [ true ↦ l ∷ ls | false ↦ lines_at (n - length l.limits) ls ]

-- a line of a tag has the numbers from..to of a sheet
pub record Next (tag : List ℕ) (from to : ℕ) : Type 0 where
  pub is : lines_at from lines ≡ line_from tag from to ∷ lines_at to lines
  pub order : from ≤ to
  pub end : to ≤ 1 + fittings_at

-- of a sheet's text, which has room, the lines before the place n are written, and so are they
pub record Upto (n : ℕ) (s so : List ℕ) : Type 0 where
  pub many : length s ≡ text_words
  pub fits : length (sheet_text s) ≤ SHEET_TEXT
  pub whole : so ++ parts_text (each_once (lines_at n lines) last_parts) (rows_on (lines_at n lines) (drop n s))
      ≡ sheet_text s

-- the text of the fitting lines from n on
abbrev pub fits_text : ℕ → List ℕ → List ℕ
fits_text n s = rows_text fit_part.kinds (fit_rows n s)
