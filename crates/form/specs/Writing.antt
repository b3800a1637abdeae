-- Which rows a text of a form can say, and the one text that says them.
use Rattle.std.specs.Prelude.{ℕ, Bool, true, false, ◌&&◌, List, [], ◌∷◌, ◌++◌, leb, length}
use Rattle.std.proofs.Math.Option.{none, some}
use Rattle.text.specs.Limit.{all_hold}
use Rattle.text.specs.Line.{Line, line_text}
use Rattle.form.specs.Parts.{Part, Form, Row, Rows, kind_of, risen, next_after}

-- ---- which rows

abbrev pub row_ok : Part → ℕ → Row → Bool
row_ok p next r =
    elim (kind_of p.kinds r.letter) [
      | none ↦ false
      | some l ↦ all_hold (risen p.rising next l.limits) 0 r.numbers
    ]

unfoldable pub rows_ok : Part → ℕ → Rows → Bool
rows_ok p next [] = true
rows_ok p next (r ∷ rs) = row_ok p next r && rows_ok p (next_after r) rs

unfoldable pub part_ok : Part → Rows → Bool
part_ok p rs = leb p.least (length rs) && (leb (length rs) p.most && rows_ok p 0 rs)

unfoldable pub parts_ok : List Part → List Rows → Bool
parts_ok [] [] = true
parts_ok [] (rs ∷ v) = false
parts_ok (p ∷ ps) [] = false
parts_ok (p ∷ ps) (rs ∷ v) = part_ok p rs && parts_ok ps v

-- ---- their text

abbrev pub row_text : List Line → Row → List ℕ
row_text kinds r = elim (kind_of kinds r.letter) [ none ↦ [] | some l ↦ line_text l r.numbers ]

unfoldable pub rows_text : List Line → Rows → List ℕ
rows_text kinds [] = []
rows_text kinds (r ∷ rs) = row_text kinds r ++ rows_text kinds rs

unfoldable pub parts_text : List Part → List Rows → List ℕ
parts_text [] v = []
parts_text (p ∷ ps) [] = []
parts_text (p ∷ ps) (rs ∷ v) = rows_text p.kinds rs ++ parts_text ps v

abbrev pub form_ok : Form → List Rows → Bool
form_ok f v = parts_ok f.parts v

abbrev pub form_text : Form → List Rows → List ℕ
form_text f v = parts_text f.parts v
