-- 02 (vi): old texts are read as they were. The form as it stood before, whose FIT lines have two numbers, is kept here
-- for this law alone: a text that it takes says the same rows by the form of today, and each of its fittings is one
-- piece.
use mathlib.Core.Path.{◌≡◌, refl, sym, ap, subst, ◌∙◌}
use mathlib.Core.Bool.{Bool, true, true≢false, ◌&&◌}
use mathlib.Core.List.{List, [], ◌∷◌, ◌++◌}
use Prim.Native.Nat.{ℕ, ◌≤◌, max}
use lib.Dec.{eqb}
use Rattle.text.specs.Limit.{ranging, all_hold}
use Rattle.text.specs.Line.{Line, numbers_text}
use Rattle.ground.proofs.Booleans.{both_hold, both_true}
use Rattle.text.proofs.Two.{two_numbers}
use Rattle.text.proofs.Bounds.{between_ranging}
use Rattle.form.specs.Parts.{Part, Form, Row, Rows, line_row, rising_lines, one_line, letter_of, kind_of, next_after}
use Rattle.form.specs.Outcome.{right, saying}
use Rattle.form.specs.Reading.{read_form}
use Rattle.form.specs.Writing.{row_ok, rows_ok, part_ok, parts_ok, row_text, rows_text, parts_text}
use Rattle.form.proofs.Held.{row_held, only_held, part_held, held_part}
use Rattle.form.proofs.Single.{kind_self}
use Rattle.form.proofs.Trip as T
use Rattle.sheet.specs.Lines.{lines, fittings, fitting_high, fit_line, end_line, most_bytes}
use Rattle.sheet.specs.SheetText.{fit_part, each_once, last_parts, sheet_form, fit_count, sheet_of, read_sheet}
use Rattle.sheet.proofs.WellMade.{sheet_made}

-- ---- the form as it stood

abbrev former_line : Line
former_line = record { tag = fit_line.tag; limits = ranging 1 fittings ∷ ranging 1 fitting_high ∷ [] }

abbrev former_part : Part
former_part = rising_lines 0 fittings former_line

abbrev former_parts : List Line → List Part
former_parts ls = each_once ls (former_part ∷ one_line end_line ∷ [])

unfoldable pub former_form : Form
former_form = record { parts = former_parts lines; room = most_bytes }

-- ---- a row of two numbers

-- it may stand, with the same text, and is of one piece
pub record Same (next : ℕ) (r : Row) : Type 0 where
  pub ok : row_ok fit_part next r ≡ true
  pub text : row_text (former_line ∷ []) r ≡ row_text (fit_line ∷ []) r
  pub one : fit_count r ≡ 1

two_same : (next n w : ℕ) → max 1 next ≤ n → n ≤ fittings → 1 ≤ w → w ≤ fitting_high
    → Same next (line_row (letter_of fit_line) (n ∷ w ∷ []))
unfolding all_hold numbers_text kind_of
two_same next n w a b c d =
    record {
      ok =
          rw (
            row_held fit_part next (line_row (letter_of fit_line) (n ∷ w ∷ [])) fit_line (kind_self fit_line),
            between_ranging (max 1 next) fittings 0 n a b,
            between_ranging 1 fitting_high n w c d,
          );
      text = refl;
      one = refl;
    }

row_same : (next : ℕ) (r : Row) → row_ok former_part next r ≡ true → Same next r
row_same next r h =
    let o = only_held former_part former_line next r refl h in
    let t = two_numbers (max 1 next) fittings 1 fitting_high r.numbers o.1 in
    let is : r ≡ line_row (letter_of fit_line) (t.n ∷ t.w ∷ []) = alike r.letter r.numbers _ o.0 t.are in
    subst (λ (x : Row). Same next x) (sym is)
    (two_same next t.n t.w t.n_low t.n_high t.w_low t.w_high)
  where
    alike : (b : ℕ) (ns ms : List ℕ) → b ≡ letter_of fit_line → ns ≡ ms → line_row b ns ≡ line_row (letter_of fit_line) ms
    alike b ns ms e f = rw (e, f)

-- ---- rows, and a whole text

unfoldable pub all_one : Rows → Bool
all_one [] = true
all_one (r ∷ rs) = eqb (fit_count r) 1 && all_one rs

record SameRows (next : ℕ) (rs : Rows) : Type 0 where
  ok : rows_ok fit_part next rs ≡ true
  text : rows_text (former_line ∷ []) rs ≡ rows_text (fit_line ∷ []) rs
  one : all_one rs ≡ true

rows_same : (next : ℕ) (rs : Rows) → rows_ok former_part next rs ≡ true → SameRows next rs
unfolding rows_ok rows_text all_one
rows_same next [] h = record { ok = refl; text = refl; one = refl }
rows_same next (r ∷ rs) h =
    let hs = both_hold (row_ok former_part next r) (rows_ok former_part (next_after r) rs) h in
    let p = row_same next r hs.0 in
    let q = rows_same (next_after r) rs hs.1 in
    record { ok = rw (p.ok, q.ok); text = rw (p.text, q.text); one = rw (p.one, q.one) }

-- the FIT rows of a sheet's rows
unfoldable pub fit_rows_of : List Line → List Rows → Rows
fit_rows_of [] [] = []
fit_rows_of [] (rs ∷ v) = rs
fit_rows_of (l ∷ ls) [] = []
fit_rows_of (l ∷ ls) (rs ∷ v) = fit_rows_of ls v

record SameParts (ls : List Line) (v : List Rows) : Type 0 where
  ok : parts_ok (each_once ls last_parts) v ≡ true
  text : parts_text (former_parts ls) v ≡ parts_text (each_once ls last_parts) v
  one : all_one (fit_rows_of ls v) ≡ true

parts_same : (ls : List Line) (v : List Rows) → parts_ok (former_parts ls) v ≡ true → SameParts ls v
unfolding parts_ok parts_text fit_rows_of
parts_same [] [] h = absurd (true≢false (sym h))
parts_same [] (rs ∷ v) h =
    let hs = both_hold (part_ok former_part rs) (parts_ok (one_line end_line ∷ []) v) h in
    let c = part_held former_part rs hs.0 in
    let p = rows_same 0 rs c.held in
    record {
      ok = both_true (held_part fit_part rs c.many c.few p.ok) hs.1;
      text = ap (λ (x : List ℕ). x ++ parts_text (one_line end_line ∷ []) v) p.text;
      one = p.one;
    }
parts_same (l ∷ ls) [] h = absurd (true≢false (sym h))
parts_same (l ∷ ls) (rs ∷ v) h =
    let hs = both_hold (part_ok (one_line l) rs) (parts_ok (former_parts ls) v) h in
    let p = parts_same ls v hs.1 in
    record {
      ok = both_true hs.0 p.ok;
      text = ap (λ (x : List ℕ). rows_text (l ∷ []) rs ++ x) p.text;
      one = p.one;
    }

-- every text that was read before says the same rows, each of its fittings one piece
pub record ReadAlike (t : List ℕ) (v : List Rows) : Type 0 where
  pub rows : read_form sheet_form t ≡ right v
  pub sheet : read_sheet t ≡ right (sheet_of v)
  pub one : all_one (fit_rows_of lines v) ≡ true

pub old_reads : (t : List ℕ) (v : List Rows) → read_form former_form t ≡ right v → ReadAlike t v
unfolding former_form sheet_form read_sheet
old_reads t v e =
    let (text, within) = T.reads_written former_form t v e in
    let p = parts_same lines v within in
    let r : read_form sheet_form t ≡ right v =
    ap (read_form sheet_form) (text ∙ p.text) ∙ T.written_reads sheet_form v sheet_made p.ok in
    record { rows = r; sheet = ap (saying sheet_of) r; one = p.one }
