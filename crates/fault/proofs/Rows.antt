-- The rows of one part as they are read, one after the other, whatever is to follow them: what was read leaves the rest
-- of the text to decide.
use mathlib.Core.Path.{◌≡◌, refl, sym, ap, ◌∙◌}
use mathlib.Core.Bool.{Bool, true, false}
use mathlib.Core.List.{List, []}
use mathlib.Core.Option.{Option, none, some}
use Prim.Native.Nat.{ℕ, zero, suc, ◌-◌, ◌<◌}
use native.Mathlib.Omega.{arith}
use borrow.Author.Tests.{eqb-true}
use lib.Dec.{eqb}
use lib.ListN.{drop}
use Rattle.text.specs.Read.{LineRead}
use Rattle.text.specs.Read.{Taken, Fault}
use Rattle.text.specs.Line.{Line, read_line}
use Rattle.form.specs.Parts.{Part, Row, Rows, line_row, letter_of, raised, next_after}
use Rattle.form.specs.Outcome.{Found, took, lost}
use Rattle.form.specs.Reading.{kind_at, read_row, no_more, read_rows}
use Rattle.form.proofs.Chain.{lost_not_found, chain_back}
use Rattle.form.proofs.RowsTrip.{rows_none, rows_more}
use Rattle.fault.specs.Rules.{Rule, LineThen, PartThen}
use Rattle.fault.proofs.Rules.{Goes}
use Rattle.fault.proofs.Going.{goes_none, goes_more}
use Rattle.fault.proofs.Line.{line_goes}
use Rattle.fault.proofs.Choice.{agree_goes}
use Rattle.fault.proofs.OneOf.{agree_one}
use Rattle.fault.proofs.Raised.{unraised}
use Rattle.fault.proofs.Count.{still, Fits, fits_next, some_part, agree_stop, agree_more}

-- ---- one row

module _ (up : Bool) (next : ℕ) (l : Line) (t : List ℕ) where
  pub row_taken : (j : ℕ) (r : Row) → read_row up next l t ≡ took j r → (read_line (raised up next l) t).ended ≡ Taken j
  row_taken j r e = go (read_line (raised up next l) t).ended refl
    where
      go : (u : LineRead) → (read_line (raised up next l) t).ended ≡ u → (read_line (raised up next l) t).ended ≡ Taken j
      go (Fault number at) d = absurd (lost_not_found (rw d at e))
      go (Taken i) d =
          let f : took i (line_row (letter_of l) (read_line (raised up next l) t).numbers) ≡ took j r = rw d at e in
          let a : i ≡ j = cc in
          d ∙ ap Taken a

  pub row_lost : (number k : ℕ) → read_row up next l t ≡ lost number k
      → (read_line (raised up next l) t).ended ≡ Fault number k
  row_lost number k e = go (read_line (raised up next l) t).ended refl
    where
      go : (u : LineRead) → (read_line (raised up next l) t).ended ≡ u
          → (read_line (raised up next l) t).ended ≡ Fault number k
      go (Taken i) d = absurd (lost_not_found (sym (rw d at e)))
      go (Fault m j) d =
          let f : ◌≡◌ {A = Found Row} (lost m j) (lost number k) = rw d at e in
          let a : m ≡ number = cc in
          let b : j ≡ k = cc in
          d ∙ rw (a, b)

module _ (p : Part) (S : Rule) where
  -- a line of the part was read, whether it is raised or not
  pub row_goes : (left need next : ℕ) (l : Line) (t : List ℕ) (j : ℕ) → Fits p (suc left) need S
      → kind_at p.kinds t ≡ some l
      → (read_line (raised p.rising next l) t).ended ≡ Taken j
      → Goes (PartThen (still p left (need - 1)) S) (PartThen (still p (suc left) need) S) t j
  row_goes left need next l t j f e d =
      let T : Rule = PartThen (still p left (need - 1)) S in
      let g : Goes T (LineThen l T) t j =
      unraised (λ R. Goes T R t j) T p.rising next l
      (line_goes (raised p.rising next l) t j d (some_part (fits_next f))) in
      agree_goes (agree_more p S t left need l f e) (agree_goes (agree_one T p.kinds l t f.made e) g)

  -- no more rows were read
  stop_goes : (left need : ℕ) (t : List ℕ) (k : ℕ) (rs : Rows) → Fits p left need S
      → (0 < left → kind_at p.kinds t ≡ none)
      → no_more need ≡ took k rs
      → Goes S (PartThen (still p left need) S) t k
  stop_goes left need t k rs f n e = go (eqb need 0) refl
    where
      go : (u : Bool) → eqb need 0 ≡ u → Goes S (PartThen (still p left need) S) t k
      go false d = absurd (lost_not_found (rw d at e))
      go true d =
          let c : took 0 [] ≡ took k rs = rw d at e in
          let a : k ≡ 0 = cc in
          rw (a, eqb-true need 0 d) (agree_goes (agree_stop p S t left f.made n) (goes_none refl))

  pub rows_goes : (left need next : ℕ) (t : List ℕ) (k : ℕ) (rs : Rows) → Fits p left need S
      → read_rows p left need next t ≡ took k rs
      → Goes S (PartThen (still p left need) S) t k
  unfolding read_rows
  rows_goes zero need next t k rs f e = stop_goes zero need t k rs f (λ h. absurd (omega arith)) e
  rows_goes (suc left) need next t k rs f e = go (kind_at p.kinds t) refl (rows_goes left (need - 1))
    where
      go : (o : Option Line) → kind_at p.kinds t ≡ o
          → ((n : ℕ) (u : List ℕ) (i : ℕ) (qs : Rows) → Fits p left (need - 1) S
          → read_rows p left (need - 1) n u ≡ took i qs
          → Goes S (PartThen (still p left (need - 1)) S) u i)
          → Goes S (PartThen (still p (suc left) need) S) t k
      go none d ih =
          stop_goes (suc left) need t k rs f (λ h. d) (sym (rows_none p (suc left) need next t d) ∙ e)
      go (some l) d ih =
          let c =
          chain_back (read_row p.rising next l t) (λ (r : Row). read_rows p left (need - 1) (next_after r)) t k rs
          (sym (rows_more p left need next t l d) ∙ e) in
          let r = row_taken p.rising next l t c.first c.a c.first_found in
          let g = row_goes left need next l t c.first f d r in
          let h = ih (next_after c.a) (drop c.first t) c.rest c.more (fits_next f) c.rest_found in
          goes_more c.both g h
