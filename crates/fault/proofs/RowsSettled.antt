-- Rows up to a place, read: rows within their limits are taken as they are written, and what stands after them decides;
-- a line with a number outside its limit is refused with 3 there.
use mathlib.Core.Path.{◌≡◌, refl, sym, ap, ◌∙◌}
use mathlib.Core.Bool.{Bool, true, true≢false}
use mathlib.Core.List.{List, [], ◌∷◌, ◌++◌, append_assoc}
use mathlib.Core.Option.{Option, none, some}
use Prim.Native.Nat.{ℕ, zero, suc, ◌+◌, ◌-◌, ◌≤◌}
use native.Mathlib.Nat.{add_assoc, zero-add}
use native.Mathlib.Omega.{arith}
use lib.ListN.{length, length-append}
use lib.Seq.{drop-append_seam}
use Rattle.answers.specs.Refusals.{outside_limits}
use Rattle.ground.proofs.Booleans.{both_hold}
use Rattle.text.specs.Read.{Fault}
use Rattle.text.specs.Line.{Line, read_line, line_text}
use Rattle.form.specs.Parts.{Part, Row, Rows, kind_of, raised, next_after}
use Rattle.form.specs.Outcome.{Found, took, lost, ahead}
use Rattle.form.specs.Reading.{kind_at, read_row, read_rows}
use Rattle.form.specs.Writing.{row_ok, rows_ok, row_text, rows_text}
use Rattle.form.proofs.Letters.{kind_letter, kinds_made, kind_made, line_at, raised_readable}
use Rattle.form.proofs.RowsTrip.{rows_more, row_forth}
use Rattle.fault.specs.Reached.{next_of, RowsStop}
use Rattle.fault.proofs.OneOf.{tagged}
use Rattle.fault.proofs.KindTold.{line_told}
use Rattle.fault.proofs.LineSettled.{line_settled}

-- ---- rows within their limits

-- k bytes gave the rows rs; then the rest was read
abbrev pub further : ℕ → Rows → Found Rows → Found Rows
further k rs (took j xs) = took (k + j) (rs ++ xs)
further k rs (lost number i) = lost number (k + i)

further_none : (r : Found Rows) → r ≡ further 0 [] r
further_none (took j xs) = ap (λ (i : ℕ). took i xs) (sym (zero-add j))
further_none (lost number i) = ap (lost number) (sym (zero-add i))

further_more : (k j : ℕ) (r : Row) (rs : Rows) (x : Found Rows)
    → ahead k r (further j rs x) ≡ further (k + j) (r ∷ rs) x
further_more k j r rs (took i xs) = ap (λ (n : ℕ). took n (r ∷ (rs ++ xs))) (sym (add_assoc k j i))
further_more k j r rs (lost number i) = ap (lost number) (sym (add_assoc k j i))

pub rows_read_on : (p : Part) (rs : Rows) (left need next : ℕ) (rest : List ℕ) → kinds_made p.kinds ≡ true
    → rows_ok p next rs ≡ true
    → length rs ≤ left
    → read_rows p left need next (rows_text p.kinds rs ++ rest)
    ≡ further (length (rows_text p.kinds rs)) rs
    (read_rows p (left - length rs) (need - length rs) (next_of next rs) rest)
unfolding rows_ok rows_text
rows_read_on p [] left need next rest m h a =
    let c : left - 0 ≡ left = omega arith in
    let d : need - 0 ≡ need = omega arith in
    rw (c, d) (further_none (read_rows p left need next rest))
rows_read_on p (r ∷ rs) zero need next rest m h a = absurd (omega arith)
rows_read_on p (r ∷ rs) (suc left) need next rest m h a =
    let hs = both_hold (row_ok p next r) (rows_ok p (next_after r) rs) h in
    go (kind_of p.kinds r.letter) refl hs.0
    (rows_read_on p rs left (need - 1) (next_after r) rest m hs.1 (omega arith))
  where
    -- what stands after these rows, read
    end : Found Rows
    end = read_rows p (left - length rs) (need - 1 - length rs) (next_of (next_after r) rs) rest

    go : (o : Option Line) → kind_of p.kinds r.letter ≡ o
        → row_ok p next r ≡ true
        → read_rows p left (need - 1) (next_after r) (rows_text p.kinds rs ++ rest)
        ≡ further (length (rows_text p.kinds rs)) rs end
        → read_rows p (suc left) need next ((row_text p.kinds r ++ rows_text p.kinds rs) ++ rest)
        ≡ further (length (row_text p.kinds r ++ rows_text p.kinds rs)) (r ∷ rs)
        (read_rows p (suc left - suc (length rs)) (need - suc (length rs)) (next_of (next_after r) rs) rest)
    go none e h ih = absurd (true≢false (sym (rw (e, row_ok) at h)))
    go (some l) e h ih =
        let x : List ℕ = line_text l r.numbers in
        let y : List ℕ = rows_text p.kinds rs in
        let made = kind_made p.kinds r.letter l m e in
        let k : kind_at p.kinds (x ++ (y ++ rest)) ≡ some l =
        line_at p.kinds l r.numbers (y ++ rest) made ∙ rw (← kind_letter p.kinds r.letter l e) e in
        let row = row_forth p next r l (y ++ rest) m e (rw (e, row_ok) at h) in
        let c : suc left - suc (length rs) ≡ left - length rs = omega arith in
        let d : need - suc (length rs) ≡ need - 1 - length rs = omega arith in
        rw (e, row_text, append_assoc x y rest, length-append x y, c, d)
        (rows_more p left need next (x ++ (y ++ rest)) l k
        ∙ rw (row, drop-append_seam x (y ++ rest), ih) (further_more (length x) (length y) r rs end))

-- ---- and then a line with a number outside

row_fault : (up : Bool) (next : ℕ) (l : Line) (t : List ℕ) (number k : ℕ)
    → (read_line (raised up next l) t).ended ≡ Fault number k
    → read_row up next l t ≡ lost number k
row_fault up next l t number k e = rw e

pub rows_settled : (p : Part) (left need next : ℕ) (t : List ℕ) (k : ℕ) → kinds_made p.kinds ≡ true
    → RowsStop outside_limits p left next t k
    → read_rows p left need next t ≡ lost outside_limits k
rows_settled p left need next t k m s =
    let from : ℕ = next_of next s.before in
    let more : ℕ = left - length s.before - 1 in
    let least : ℕ = need - length s.before in
    let made = kind_made p.kinds s.letter s.line m s.kind in
    let kind : kind_at p.kinds s.rest ≡ some s.line =
    line_told p.kinds outside_limits p.rising from s.line s.rest s.into (tagged s.line made)
    (λ q. absurd (omega arith)) s.stops
    ∙ rw (← kind_letter p.kinds s.letter s.line s.kind) s.kind in
    let line = line_settled (raised p.rising from s.line) s.rest s.into
    (raised_readable p.rising from s.line made) s.stops in
    let row = row_fault p.rising from s.line s.rest outside_limits s.into line in
    let here : read_rows p (suc more) least from s.rest ≡ lost outside_limits s.into =
    rows_more p more least from s.rest s.line kind ∙ rw row in
    let c : left - length s.before ≡ suc more = omega (arith, s.few) in
    rw (s.text, s.place)
    (rows_read_on p s.before left need next s.rest m s.held (omega (arith, s.few)) ∙ rw (c, here))
