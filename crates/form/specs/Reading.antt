-- Reading a text of any form: part after part from the top, and of each part as many lines as there are, but no more
-- than may be; then nothing.
use Rattle.std.specs.Prelude.{ℕ, zero, suc, ◌-◌, Bool, cond, List, [], ◌∷◌, eqb, ltb, length}
use Rattle.std.proofs.Math.Option.{Option, none, some}
use Rattle.answers.specs.Refusals.{broken_line}
use Rattle.text.specs.Line.{Line, read_line}
use Rattle.form.specs.Parts.{Part, Form, Row, Rows, line_row, letter_of, kind_of, raised, next_after}
use Rattle.form.specs.Outcome.{Found, took, lost, outcome, mapped, chained, Verdict, wrong, placed}

-- the kind of line that t begins as
abbrev pub kind_at : List Line → List ℕ → Option Line
kind_at kinds [] = none
kind_at kinds (b ∷ t) = kind_of kinds b

-- a line of the kind l, its first number from next on where it rises
abbrev pub read_row : Bool → ℕ → Line → List ℕ → Found Row
read_row up next l t = mapped (line_row (letter_of l)) (outcome (read_line (raised up next l) t))

-- no more rows, where no more are needed
abbrev pub no_more : ℕ → Found Rows
no_more need = cond (eqb need 0) (took 0 []) (lost broken_line 0)

-- rows of p: `left` of them at most, `need` at least, and the first from next on
unfoldable pub read_rows : Part → ℕ → ℕ → ℕ → List ℕ → Found Rows
read_rows p zero need next t = no_more need
read_rows p (suc left) need next t =
    elim (kind_at p.kinds t) [
      | none ↦ no_more need
      | some l ↦ chained (read_row p.rising next l t) (λ (r : Row). read_rows p left (need - 1) (next_after r)) t
    ]

abbrev pub read_stop : List ℕ → Found (List Rows)
read_stop [] = took 0 []
read_stop (b ∷ t) = lost broken_line 0

unfoldable pub read_parts : List Part → List ℕ → Found (List Rows)
read_parts [] t = read_stop t
read_parts (p ∷ ps) t = chained (read_rows p p.most p.least 0 t) (λ (rs : Rows). read_parts ps) t

-- a text too long is not read: it has no place at fault
unfoldable pub read_form : Form → List ℕ → Verdict (List Rows)
read_form f t = cond (ltb f.room (length t)) (wrong broken_line 0 0) (placed t (read_parts f.parts t))
