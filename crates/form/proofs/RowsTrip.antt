-- The rows of one part, one after the other; what is written reads back.
use mathlib.Core.Path.{◌≡◌, refl, sym, ◌∙◌}
use mathlib.Core.Bool.{true, true≢false}
use mathlib.Core.List.{List, [], ◌∷◌, ◌++◌, append_assoc}
use mathlib.Core.Option.{Option, none, some}
use Prim.Native.Nat.{ℕ, zero, suc, ◌-◌, ◌≤◌, ◌<◌}
use native.Mathlib.Omega.{arith}
use borrow.Author.Tests.{eq-eqb}
use lib.ListN.{length, length-append}
use Rattle.text.specs.Limit.{all_hold}
use Rattle.text.specs.Line.{Line, read_line, line_text}
use Rattle.ground.proofs.Booleans.{both_hold}
use Rattle.text.proofs.NumbersTrip.{got}
use Rattle.text.proofs.LineTrip.{line_forth}
use Rattle.form.specs.Parts.{Part, Row, Rows, kind_of, risen, raised, next_after}
use Rattle.form.specs.Outcome.{took, chained}
use Rattle.form.specs.Reading.{kind_at, read_row, no_more, read_rows}
use Rattle.form.specs.Writing.{row_ok, rows_ok, row_text, rows_text}
use Rattle.form.proofs.Chain.{chain_forth}
use Rattle.form.proofs.Letters.{kind_letter, kinds_made, kind_made, line_at, raised_text, raised_readable}

-- ---- no more rows, or one more

pub rows_none : (p : Part) (left need next : ℕ) (t : List ℕ) → kind_at p.kinds t ≡ none
    → read_rows p left need next t ≡ no_more need
unfolding read_rows
rows_none p zero need next t e = refl
rows_none p (suc left) need next t e = rw (e, read_rows)

pub rows_more : (p : Part) (left need next : ℕ) (t : List ℕ) (l : Line) → kind_at p.kinds t ≡ some l
    → read_rows p (suc left) need next t
    ≡ chained (read_row p.rising next l t) (λ (r : Row). read_rows p left (need - 1) (next_after r)) t
unfolding read_rows
rows_more p left need next t l e = rw (e, read_rows)

-- ---- what is written reads back

pub row_forth : (p : Part) (next : ℕ) (r : Row) (l : Line) (rest : List ℕ) → kinds_made p.kinds ≡ true
    → kind_of p.kinds r.letter ≡ some l
    → all_hold (risen p.rising next l.limits) 0 r.numbers ≡ true
    → read_row p.rising next l (line_text l r.numbers ++ rest) ≡ took (length (line_text l r.numbers)) r
row_forth p next r l rest m e h =
    let n = raised_readable p.rising next l (kind_made p.kinds r.letter l m e) in
    let m : Line = raised p.rising next l in
    let x : List ℕ = line_text l r.numbers in
    let f : read_line m (x ++ rest) ≡ got (length x) r.numbers =
    rw (raised_text p.rising next l r.numbers) at (line_forth m r.numbers rest n h) in
    rw (f, ← kind_letter p.kinds r.letter l e)

pub rows_forth : (p : Part) (rs : Rows) (left need next : ℕ) (rest : List ℕ) → kinds_made p.kinds ≡ true
    → rows_ok p next rs ≡ true
    → need ≤ length rs
    → length rs ≤ left
    → (length rs < left → kind_at p.kinds rest ≡ none)
    → read_rows p left need next (rows_text p.kinds rs ++ rest) ≡ took (length (rows_text p.kinds rs)) rs
unfolding rows_ok rows_text read_rows
rows_forth p [] zero need next rest m h a b s = rw (eq-eqb need 0 (omega arith))
rows_forth p [] (suc left) need next rest m h a b s =
    rows_none p (suc left) need next rest (s (omega arith)) ∙ rw (eq-eqb need 0 (omega arith))
rows_forth p (r ∷ rs) zero need next rest m h a b s = absurd (omega arith)
rows_forth p (r ∷ rs) (suc left) need next rest m h a b s =
    let hs = both_hold (row_ok p next r) (rows_ok p (next_after r) rs) h in
    go (kind_of p.kinds r.letter) refl hs.0
    (rows_forth p rs left (need - 1) (next_after r) rest m hs.1 (omega arith) (omega arith)
    (λ (k : length rs < left). s (omega arith)))
  where
    go : (o : Option Line) → kind_of p.kinds r.letter ≡ o
        → row_ok p next r ≡ true
        → read_rows p left (need - 1) (next_after r) (rows_text p.kinds rs ++ rest)
        ≡ took (length (rows_text p.kinds rs)) rs
        → read_rows p (suc left) need next ((row_text p.kinds r ++ rows_text p.kinds rs) ++ rest)
        ≡ took (length (row_text p.kinds r ++ rows_text p.kinds rs)) (r ∷ rs)
    go none e h ih = absurd (true≢false (sym (rw (e, row_ok) at h)))
    go (some l) e h ih =
        let x : List ℕ = line_text l r.numbers in
        let y : List ℕ = rows_text p.kinds rs in
        let made = kind_made p.kinds r.letter l m e in
        let k : kind_at p.kinds (x ++ (y ++ rest)) ≡ some l =
        line_at p.kinds l r.numbers (y ++ rest) made ∙ rw (← kind_letter p.kinds r.letter l e) e in
        let row = row_forth p next r l (y ++ rest) m e (rw (e, row_ok) at h) in
        rw (e, row_text, append_assoc x y rest, length-append x y)
        (rows_more p left need next (x ++ (y ++ rest)) l k
        ∙ chain_forth (read_row p.rising next l (x ++ (y ++ rest)))
        (λ (r : Row). read_rows p left (need - 1) (next_after r)) x (y ++ rest) r rs (length y) row ih)
