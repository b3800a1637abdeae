-- Rows that stop with 2 at a place: their reader comes as far as the field there.
use mathlib.Core.Path.{◌≡◌, refl, ap, ◌∙◌}
use mathlib.Core.Bool.{Bool, true}
use mathlib.Core.List.{List}
use mathlib.Core.Option.{some}
use Prim.Native.Nat.{ℕ, suc, ◌+◌, ◌-◌, ◌≤◌, ◌<◌}
use native.Mathlib.Omega.{arith}
use lib.ListN.{length, drop}
use Rattle.answers.specs.Refusals.{broken_line}
use Rattle.ground.proofs.Booleans.{by_less}
use Rattle.text.specs.Read.{LineRead}
use Rattle.text.specs.Read.{Taken, Fault}
use Rattle.text.specs.Line.{Line, read_line}
use Rattle.text.proofs.Line.{extent}
use Rattle.form.specs.Parts.{Part, Row, Rows, raised, next_after}
use Rattle.form.specs.Outcome.{Found, took, lost, ahead, chained}
use Rattle.form.specs.Reading.{kind_at, read_row, read_rows}
use Rattle.form.specs.Writing.{rows_text}
use Rattle.form.proofs.Letters.{kind_letter, kinds_made, kind_made, raised_readable}
use Rattle.form.proofs.RowsTrip.{rows_more}
use Rattle.fault.specs.Reached.{next_of, RowsStop}
use Rattle.fault.proofs.OneOf.{tagged}
use Rattle.fault.proofs.Ended.{after_field}
use Rattle.fault.proofs.KindTold.{line_told}
use Rattle.fault.proofs.RowsSettled.{further, rows_read_on}
use Rattle.fault.proofs.LineReach.{after_led, line_reach}

-- ---- how far a reader came

module _ {A : Type 0} where
  abbrev pub reached : Found A → ℕ
  reached (took k a) = k
  reached (lost number k) = k

module _ {A : Type 0} where
  pub ahead_reached : (k : ℕ) (a : A) (r : Found (List A)) → reached (ahead k a r) ≡ k + reached r
  ahead_reached k a (took j xs) = refl
  ahead_reached k a (lost number i) = refl

pub further_reached : (k : ℕ) (rs : Rows) (r : Found Rows) → reached (further k rs r) ≡ k + reached r
further_reached k rs (took j xs) = refl
further_reached k rs (lost number i) = refl

pub chain_reached : {A : Type 0} (p : Found A) (next : A → List ℕ → Found (List A)) (t : List ℕ)
    → reached p ≤ reached (chained p next t)
chain_reached (took k a) next t = omega (arith, ahead_reached k a (next a (drop k t)))
chain_reached (lost number k) next t = omega arith

row_reached : (up : Bool) (next : ℕ) (l : Line) (t : List ℕ)
    → reached (read_row up next l t) ≡ extent (read_line (raised up next l) t).ended
row_reached up next l t = go (read_line (raised up next l) t).ended refl
  where
    go : (u : LineRead) → (read_line (raised up next l) t).ended ≡ u
        → reached (read_row up next l t) ≡ extent (read_line (raised up next l) t).ended
    go (Taken i) e = rw e
    go (Fault number i) e = rw e

-- ---- rows

pub rows_reach_lem : (p : Part) (left need next : ℕ) (t : List ℕ) (k j : ℕ) → kinds_made p.kinds ≡ true
    → RowsStop broken_line p left next t k
    → reached (read_rows p left need next t) ≤ j
    → k < after_field t j
rows_reach_lem p left need next t k j m s h =
    let x : List ℕ = rows_text p.kinds s.before in
    let end : Found Rows = read_rows p (suc more) least from s.rest in
    let c : left - length s.before ≡ suc more = omega (arith, s.few) in
    let past : read_rows p left need next t ≡ further (length x) s.before end =
    rw s.text
    (rows_read_on p s.before left need next s.rest m s.held (omega (arith, s.few))
    ∙ ap (λ (n : ℕ). further (length x) s.before (read_rows p n least from s.rest)) c) in
    let e : reached (read_rows p left need next t) ≡ length x + reached end =
    rw past (further_reached (length x) s.before end) in
    let i : ℕ = j - length x in
    let inner : s.into < after_field s.rest i =
    by_less 0 s.into (λ g. line i g (omega (arith, e))) (λ g. omega arith) in
    rw (s.place, s.text) (after_led x s.rest s.into j (omega (arith, e)) inner)
  where
    from : ℕ
    from = next_of next s.before

    more : ℕ
    more = left - length s.before - 1

    least : ℕ
    least = need - length s.before

    line : (i : ℕ) → 0 < s.into → reached (read_rows p (suc more) least from s.rest) ≤ i
        → s.into < after_field s.rest i
    line i g h =
        let made = kind_made p.kinds s.letter s.line m s.kind in
        let l : Line = raised p.rising from s.line in
        let kind : kind_at p.kinds s.rest ≡ some s.line =
        line_told p.kinds broken_line p.rising from s.line s.rest s.into (tagged s.line made)
        (λ q. g) s.stops
        ∙ rw (← kind_letter p.kinds s.letter s.line s.kind) s.kind in
        let next : Row → List ℕ → Found Rows = λ (r : Row). read_rows p more (least - 1) (next_after r) in
        let c = chain_reached (read_row p.rising from s.line s.rest) next s.rest in
        let r = row_reached p.rising from s.line s.rest in
        let e = ap reached (rows_more p more least from s.rest s.line kind) in
        line_reach l s.rest s.into i (raised_readable p.rising from s.line made) s.stops
        (omega (arith, c, r, e))
