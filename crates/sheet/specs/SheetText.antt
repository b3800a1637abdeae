-- 01, The sheet, as a form of text: ten lines, up to 24 FIT lines whose line numbers rise, END. What a sheet's text
-- says as the sheet's numbers, and the one text of a sheet.
use Rattle.std.specs.Prelude.{ℕ, zero, suc, ◌-◌, true, false, List, [], ◌∷◌, ◌++◌, eqb, length, take, drop, get_or}
use Rattle.text.specs.Line.{Line}
use Rattle.form.specs.Parts.{Part, Form, Row, Rows, line_row, one_line, rising_lines, letter_of, numbers_of}
use Rattle.form.specs.Outcome.{Verdict, saying}
use Rattle.form.specs.Reading.{read_form}
use Rattle.form.specs.Writing.{form_text}
use Rattle.sheet.specs.Lines.{lines, fittings, fit_line, end_line, most_bytes}

-- ---- the form

abbrev pub fit_part : Part
fit_part = rising_lines 0 fittings fit_line

-- a part for each of the lines, one line each, and then ps
abbrev pub each_once : List Line → List Part → List Part
each_once [] ps = ps
each_once (l ∷ ls) ps = one_line l ∷ each_once ls ps

-- what follows SEAT
abbrev pub last_parts : List Part
last_parts = fit_part ∷ one_line end_line ∷ []

unfoldable pub sheet_form : Form
sheet_form = record { parts = each_once lines last_parts; room = most_bytes }

-- ---- FIT rows and the fitting lines

abbrev pub fit_number : Row → ℕ
fit_number r = get_or r.numbers 0 0

abbrev pub fit_weight : Row → ℕ
fit_weight r = get_or r.numbers 1 0

-- 02 (vi): a line of before, with two numbers, is of one piece
abbrev pub fit_count : Row → ℕ
fit_count r = get_or r.numbers 2 1

-- so many lines without a fitting
unfoldable pub empty_lines : ℕ → List ℕ
empty_lines zero = []
empty_lines (suc k) = 0 ∷ 0 ∷ empty_lines k

-- weight and count of the lines from number next on
unfoldable pub fits_from : ℕ → Rows → List ℕ
fits_from next [] = empty_lines (suc fittings - next)
fits_from next (r ∷ rs) =
    empty_lines (fit_number r - next)
    ++ (fit_weight r ∷ fit_count r ∷ fits_from (suc (fit_number r)) rs)

abbrev pub fit_row : ℕ → ℕ → ℕ → Row
fit_row n weight count = line_row (letter_of fit_line) (n ∷ weight ∷ count ∷ [])

-- the rows of the lines from n on; each has its count
unfoldable pub fit_rows : ℕ → List ℕ → Rows
fit_rows n [] = []
fit_rows n (w ∷ []) = []
fit_rows n (w ∷ c ∷ s) = elim (eqb w 0) [ true ↦ fit_rows (suc n) s | false ↦ fit_row n w c ∷ fit_rows (suc n) s ]

-- ---- a sheet's rows and its numbers

unfoldable pub fits_of : List Rows → List ℕ
fits_of [] = []
fits_of (rs ∷ v) = fits_from 1 rs

unfoldable pub numbers_on : List Line → List Rows → List ℕ
numbers_on [] v = fits_of v
numbers_on (l ∷ ls) [] = []
numbers_on (l ∷ ls) (rs ∷ v) = numbers_of rs ++ numbers_on ls v

abbrev pub sheet_of : List Rows → List ℕ
sheet_of v = numbers_on lines v

unfoldable pub rows_on : List Line → List ℕ → List Rows
rows_on [] s = fit_rows 1 s ∷ (line_row (letter_of end_line) [] ∷ []) ∷ []
rows_on (l ∷ ls) s =
    (line_row (letter_of l) (take (length l.limits) s) ∷ [])
    ∷ rows_on ls (drop (length l.limits) s)

abbrev pub rows_of : List ℕ → List Rows
rows_of s = rows_on lines s

-- ---- reading and writing

unfoldable pub read_sheet : List ℕ → Verdict (List ℕ)
read_sheet t = saying sheet_of (read_form sheet_form t)

unfoldable pub sheet_text : List ℕ → List ℕ
sheet_text s = form_text sheet_form (rows_of s)
