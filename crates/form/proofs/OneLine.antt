-- A part of one line is read as the line is.
use mathlib.Core.Path.{◌≡◌, refl, ◌∙◌}
use mathlib.Core.Bool.{Bool, true, false}
use mathlib.Core.List.{List, [], ◌∷◌, append-nil}
use Prim.Native.Nat.{ℕ, ◌<◌}
use native.Mathlib.Nat.{add-zero}
use native.Mathlib.Omega.{arith}
use lib.ListN.{length, get_or}
use Rattle.text.specs.Read.{LineRead}
use Rattle.text.specs.Read.{Taken, Fault}
use Rattle.text.specs.Field.{begins, agreed}
use Rattle.text.specs.Line.{Line, Reading, refused, read_line}
use Rattle.text.proofs.Line.{line_untagged}
use Rattle.form.specs.Parts.{Row, Rows, line_row, one_line, letter_of, next_after, numbers_of}
use Rattle.form.specs.Outcome.{Found, outcome, mapped, chained}
use Rattle.form.specs.Reading.{read_rows}
use Rattle.form.proofs.Letters.{kind_here, kind_away}
use Rattle.form.proofs.RowsTrip.{rows_none, rows_more}

pub none_agreed : (tag t : List ℕ) → 0 < length tag → begins (get_or tag 0 0) t ≡ false → agreed tag t ≡ 0
unfolding agreed
none_agreed [] t h e = absurd (omega arith)
none_agreed (c ∷ tag) [] h e = refl
none_agreed (c ∷ tag) (b ∷ t) h e = rw (e, agreed)

-- a text that does not begin as the line is refused at its first byte
pub line_else : (l : Line) (t : List ℕ) → 0 < length l.tag
    → begins (letter_of l) t ≡ false
    → read_line l t ≡ refused 2 0
line_else l t h e =
    let z = none_agreed l.tag t h e in
    line_untagged l t (λ (d : agreed l.tag t ≡ length l.tag). omega arith) ∙ rw z

pub one_agree : (l : Line) (t : List ℕ) → 0 < length l.tag
    → outcome (read_line l t) ≡ mapped numbers_of (read_rows (one_line l) 1 1 0 t)
unfolding numbers_of read_rows
one_agree l t h = go (begins (letter_of l) t) refl
  where
    rest : Row → List ℕ → Found Rows
    rest r = read_rows (one_line l) 0 0 (next_after r)

    single : (p : Reading) → outcome p ≡ mapped numbers_of (chained (mapped (line_row (letter_of l)) (outcome p)) rest t)
    single p = more p.ended refl
      where
        more : (r : LineRead) → p.ended ≡ r
            → outcome p ≡ mapped numbers_of (chained (mapped (line_row (letter_of l)) (outcome p)) rest t)
        more (Taken k) e = rw (e, append-nil p.numbers, add-zero k)
        more (Fault number at) e = rw e

    go : (u : Bool) → begins (letter_of l) t ≡ u
        → outcome (read_line l t) ≡ mapped numbers_of (read_rows (one_line l) 1 1 0 t)
    go true e = single (read_line l t) ∙ rw (rows_more (one_line l) 0 1 0 t l (kind_here l t e))
    go false e = rw (line_else l t h e, rows_none (one_line l) 1 1 0 t (kind_away l t e))
