-- The rows of one part that were read are what would be written.
use mathlib.Core.Path.{◌≡◌, refl, sym, ◌∙◌}
use mathlib.Core.Bool.{Bool, true, false}
use mathlib.Core.List.{List, [], ◌∷◌}
use mathlib.Core.Option.{Option, none, some, none-ne-some}
use Prim.Native.Nat.{ℕ, zero, suc, ◌+◌, ◌-◌, ◌≤◌}
use native.Mathlib.Omega.{arith}
use borrow.Author.Tests.{eqb-true}
use lib.Dec.{eqb}
use lib.ListN.{length, drop}
use Rattle.text.specs.Read.{LineRead}
use Rattle.text.specs.Read.{Taken, Fault}
use Rattle.text.specs.Line.{Line, read_line}
use Rattle.text.proofs.Led.{Led, led_none, led_more}
use Rattle.text.proofs.LineTrip.{line_back}
use Rattle.form.specs.Parts.{Part, Row, Rows, line_row, letter_of, kind_of, raised, next_after}
use Rattle.form.specs.Outcome.{took}
use Rattle.form.specs.Reading.{kind_at, read_row, no_more, read_rows}
use Rattle.form.specs.Writing.{row_ok, rows_ok, row_text, rows_text}
use Rattle.form.proofs.Chain.{lost_not_found, chain_back}
use Rattle.form.proofs.Letters.{kind_letter, raised_text}
use Rattle.form.proofs.RowsTrip.{rows_none, rows_more}

pub record RowsBack (p : Part) (left need next : ℕ) (t : List ℕ) (k : ℕ) (rs : Rows) : Type 0 where
  pub led : Led (rows_text p.kinds rs) t k
  pub held : rows_ok p next rs ≡ true
  pub many : need ≤ length rs
  pub few : length rs ≤ left

none_back : (p : Part) (left need next : ℕ) (t : List ℕ) (k : ℕ) (rs : Rows) → no_more need ≡ took k rs
    → RowsBack p left need next t k rs
unfolding rows_text rows_ok
none_back p left need next t k rs e = go (eqb need 0) refl
  where
    go : (u : Bool) → eqb need 0 ≡ u → RowsBack p left need next t k rs
    go false d = absurd (lost_not_found (rw d at e))
    go true d =
        let f : took 0 [] ≡ took k rs = rw d at e in
        let a : k ≡ 0 = cc in
        let b : rs ≡ [] = cc in
        rw (a, b) (record { led = led_none t; held = refl; many = omega (arith, eqb-true need 0 d); few = omega arith })

-- a row that was read
pub record RowBack (p : Part) (next : ℕ) (t : List ℕ) (j : ℕ) (r : Row) : Type 0 where
  pub led : Led (row_text p.kinds r) t j
  pub held : row_ok p next r ≡ true

pub row_back : (p : Part) (next : ℕ) (l : Line) (t : List ℕ) (j : ℕ) (r : Row) → kind_of p.kinds (letter_of l) ≡ some l
    → read_row p.rising next l t ≡ took j r
    → RowBack p next t j r
row_back p next l t j r k e = go (read_line (raised p.rising next l) t).ended refl
  where
    go : (u : LineRead) → (read_line (raised p.rising next l) t).ended ≡ u → RowBack p next t j r
    go (Fault number at) d = absurd (lost_not_found (rw d at e))
    go (Taken i) d =
        let ns : List ℕ = (read_line (raised p.rising next l) t).numbers in
        let f : took i (line_row (letter_of l) ns) ≡ took j r = rw d at e in
        let a : j ≡ i = cc in
        let c : r ≡ line_row (letter_of l) ns = cc in
        let b = line_back (raised p.rising next l) t i d in
        let led = rw (raised_text p.rising next l ns) at b.led in
        rw (a, c) (record { led = rw (k, row_text) led; held = rw (k, row_ok) b.held })

more_back : (p : Part) (left need next : ℕ) (t : List ℕ) (j i : ℕ) (r : Row) (rs : Rows) {k : ℕ} {qs : Rows} → k ≡ j + i
    → qs ≡ r ∷ rs
    → RowBack p next t j r
    → RowsBack p left (need - 1) (next_after r) (drop j t) i rs
    → RowsBack p (suc left) need next t k qs
unfolding rows_text rows_ok
more_back p left need next t j i r rs c d a b =
    rw (c, d) (record {
      led = led_more a.led b.led;
      held = rw (a.held, b.held);
      many = omega (arith, b.many);
      few = omega (arith, b.few);
    })

pub kind_at_lem : (kinds : List Line) (t : List ℕ) (l : Line) → kind_at kinds t ≡ some l → kind_of kinds (letter_of l) ≡ some l
kind_at_lem kinds [] l e = absurd (none-ne-some l e)
kind_at_lem kinds (b ∷ t) l e = rw (← kind_letter kinds b l e) e

pub rows_back : (p : Part) (left need next : ℕ) (t : List ℕ) (k : ℕ) (rs : Rows)
    → read_rows p left need next t ≡ took k rs
    → RowsBack p left need next t k rs
unfolding read_rows
rows_back p zero need next t k rs e = none_back p zero need next t k rs e
rows_back p (suc left) need next t k rs e = go (kind_at p.kinds t) refl (rows_back p left (need - 1))
  where
    go : (o : Option Line) → kind_at p.kinds t ≡ o
        → ((n : ℕ) (u : List ℕ) (i : ℕ) (qs : Rows) → read_rows p left (need - 1) n u ≡ took i qs
        → RowsBack p left (need - 1) n u i qs)
        → RowsBack p (suc left) need next t k rs
    go none d ih = none_back p (suc left) need next t k rs (sym (rows_none p (suc left) need next t d) ∙ e)
    go (some l) d ih =
        let c =
        chain_back (read_row p.rising next l t) (λ (r : Row). read_rows p left (need - 1) (next_after r)) t k rs
        (sym (rows_more p left need next t l d) ∙ e) in
        let a = row_back p next l t c.first c.a (kind_at_lem p.kinds t l d) c.first_found in
        let b = ih (next_after c.a) (drop c.first t) c.rest c.more c.rest_found in
        more_back p left need next t c.first c.rest c.a c.more c.both c.all a b
