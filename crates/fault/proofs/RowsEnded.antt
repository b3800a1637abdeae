-- Rows of which one breaks a limit: the rows before it are by the rules as they are written.
use mathlib.Core.Path.{◌≡◌, refl, sym, ◌∙◌}
use mathlib.Core.Bool.{Bool, true, false}
use mathlib.Core.List.{List, ◌++◌}
use mathlib.Core.Option.{Option, none, some}
use Prim.Native.Nat.{ℕ, zero, suc, ◌+◌, ◌-◌}
use native.Mathlib.Omega.{arith}
use lib.Dec.{eqb}
use lib.ListN.{drop}
use Rattle.answers.specs.Refusals.{broken_line, outside_limits}
use Rattle.text.specs.Read.{Taken, Fault}
use Rattle.text.specs.Line.{Line, read_line, line_text}
use Rattle.text.proofs.Limits.{readable}
use Rattle.text.proofs.LineTrip.{line_back}
use Rattle.form.specs.Parts.{Part, Row, Rows, letter_of, raised, next_after}
use Rattle.form.specs.Outcome.{Found, lost}
use Rattle.form.specs.Reading.{kind_at, read_row, no_more, read_rows}
use Rattle.form.proofs.Chain.{lost_not_found, Broken, at_first, at_rest, chain_lost}
use Rattle.form.proofs.Letters.{kind_made, raised_readable}
use Rattle.form.proofs.RowsTrip.{rows_none, rows_more}
use Rattle.form.proofs.RowsBack.{kind_at_lem}
use Rattle.fault.specs.Rules.{Rule, LineThen, PartThen}
use Rattle.fault.proofs.Line.{line_refused}
use Rattle.fault.proofs.OneOf.{agree_one}
use Rattle.fault.proofs.Raised.{unraised}
use Rattle.fault.proofs.Count.{still, Fits, fits_next, some_part, agree_more}
use Rattle.fault.proofs.Rows.{row_taken, row_lost}
use Rattle.fault.proofs.Ended.{Ended, ended_wider, ended_led}
use Rattle.fault.proofs.LineEnded.{line_ended, line_written}

-- no refusal with 3 for a line that is missing
none_lost : (need k : ℕ) → no_more need ≡ lost outside_limits k → ⊥
none_lost need k e = go (eqb need 0) refl
  where
    go : (u : Bool) → eqb need 0 ≡ u → ⊥
    go true d = lost_not_found (sym (rw d at e))
    go false d =
        let c : ◌≡◌ {A = Found Rows} (lost broken_line 0) (lost outside_limits k) = rw d at e in
        let z : broken_line ≡ outside_limits = cc in
        omega arith

module _ (p : Part) (S : Rule) where
  -- a line can be read back, raised or not
  thin : {left need : ℕ} (next : ℕ) (l : Line) (t : List ℕ) → Fits p left need S
      → kind_at p.kinds t ≡ some l
      → readable (raised p.rising next l).limits ≡ true
  thin next l t f e =
      raised_readable p.rising next l
      (kind_made p.kinds (letter_of l) l f.made (kind_at_lem p.kinds t l e))

  -- "a line l, and then the lines that may still come" is what the part says, whatever stands after
  line_wider : (left need : ℕ) (l : Line) (t x : List ℕ) → Fits p (suc left) need S
      → kind_at p.kinds t ≡ some l
      → LineThen l (PartThen (still p left (need - 1)) S) x
      → PartThen (still p (suc left) need) S x
  line_wider left need l t x f e w =
      (agree_more p S t left need l f e).wider x
      ((agree_one (PartThen (still p left (need - 1)) S) p.kinds l t f.made e).wider x w)

  -- the row of a line is refused
  row_ended : (left need next : ℕ) (l : Line) (t : List ℕ) (k : ℕ) → Fits p (suc left) need S
      → kind_at p.kinds t ≡ some l
      → (read_line (raised p.rising next l) t).ended ≡ Fault outside_limits k
      → Ended (PartThen (still p (suc left) need) S) t k
  row_ended left need next l t k f e d =
      let T : Rule = PartThen (still p left (need - 1)) S in
      let m : Line = raised p.rising next l in
      let s = some_part (fits_next f) in
      let q = line_refused m t outside_limits k s d in
      ended_wider (λ x w. line_wider left need l t x f e w)
      (unraised (λ R. Ended R t k) T p.rising next l (line_ended T m t k (thin next l t f e) s q.limits))

  -- a row was read, and what follows is refused
  row_past : (left need next : ℕ) (l : Line) (t : List ℕ) (j i k : ℕ) → Fits p (suc left) need S
      → kind_at p.kinds t ≡ some l
      → (read_line (raised p.rising next l) t).ended ≡ Taken j
      → k ≡ j + i
      → Ended (PartThen (still p left (need - 1)) S) (drop j t) i
      → Ended (PartThen (still p (suc left) need) S) t k
  row_past left need next l t j i k f e d c g =
      let T : Rule = PartThen (still p left (need - 1)) S in
      let m : Line = raised p.rising next l in
      let ns : List ℕ = (read_line m t).numbers in
      let x : List ℕ = line_text m ns in
      let b = line_back m t j d in
      ended_led b.led c
      (λ u w.
      line_wider left need l t (x ++ u) f e
      (unraised (λ R. R (x ++ u)) T p.rising next l (line_written T m ns u (thin next l t f e) b.held w)))
      g

  pub rows_ended_lem : (left need next : ℕ) (t : List ℕ) (k : ℕ) → Fits p left need S
      → read_rows p left need next t ≡ lost outside_limits k
      → Ended (PartThen (still p left need) S) t k
  unfolding read_rows
  rows_ended_lem zero need next t k f e = absurd (none_lost need k e)
  rows_ended_lem (suc left) need next t k f e = go (kind_at p.kinds t) refl (rows_ended_lem left (need - 1))
    where
      rest : Row → List ℕ → Found Rows
      rest r = read_rows p left (need - 1) (next_after r)

      go : (o : Option Line) → kind_at p.kinds t ≡ o
          → ((n : ℕ) (u : List ℕ) (i : ℕ) → Fits p left (need - 1) S
          → read_rows p left (need - 1) n u ≡ lost outside_limits i
          → Ended (PartThen (still p left (need - 1)) S) u i)
          → Ended (PartThen (still p (suc left) need) S) t k
      go none d ih = absurd (none_lost need k (sym (rows_none p (suc left) need next t d) ∙ e))
      go (some l) d ih =
          more (chain_lost (read_row p.rising next l t) rest t outside_limits k
          (sym (rows_more p left need next t l d) ∙ e))
        where
          more : Broken (read_row p.rising next l t) rest t outside_limits k
              → Ended (PartThen (still p (suc left) need) S) t k
          more (at_first a) = row_ended left need next l t k f d (row_lost p.rising next l t outside_limits k a)
          more (at_rest j r i a b c) =
              row_past left need next l t j i k f d (row_taken p.rising next l t j r a) c
              (ih (next_after r) (drop j t) i (fits_next f) b)
