-- The loop that reads the rows of a part whose lines rise, whatever it does with them.
use mathlib.Core.Path.{◌≡◌, refl, sym, ap, ◌∙◌}
use mathlib.Core.List.{List, [], ◌∷◌, ◌++◌}
use mathlib.Core.Option.{none, some}
use Prim.Native.Nat.{ℕ, suc, ◌+◌, ◌-◌, ◌≤◌, ◌<◌}
use native.Mathlib.Nat.{sub-zero}
use native.Mathlib.Omega.{arith}
use lib.ListN.{length, take, drop, length-append, length-drop, drop_of_length-le}
use lib.Seq.{drop-drop}
use Rattle.text.specs.Line.{Line, read_line}
use Rattle.ground.proofs.Stores.{rest_part}
use Rattle.form.specs.Parts.{Part, Row, Rows, line_row, letter_of, raised, next_after}
use Rattle.form.specs.Outcome.{Found, took, lost, outcome, mapped, chained}
use Rattle.form.specs.Reading.{kind_at, no_more, read_rows}
use Rattle.form.proofs.RowsTrip.{rows_none, rows_more}
use Rattle.reading.specs.Rows.{RowRead}
use Rattle.reading.specs.Rows.{NoRow}
use Rattle.reading.specs.Steps.{onward}
use Rattle.reading.specs.Rows.{RowOf}
use Rattle.reading.proofs.Row.{row_lost, Rowed}
use Rattle.reading.proofs.Found.{onward_none, onward_twice, onward_end, ahead_onward}

-- a place in the part of t from `at` on, seen from the whole
pub part_in : (t : List ℕ) {at n : ℕ} → at ≤ length t → n ≤ length (take (length t - at) (drop at t))
    → at + n ≤ length t
part_in t {at} h k = omega (arith, ap length (rest_part t at), length-drop at t)

-- all rows of p that t starts with
abbrev pub rows_at : Part → List ℕ → Found Rows
rows_at p t = read_rows p p.most p.least 0 t

-- rs are read, `count` rows, which took `at` bytes of t; the next row starts from above
pub record Upto (p : Part) (t : List ℕ) (rs : Rows) (count at above : ℕ) : Type 0 where
  pub many : length rs ≡ count
  pub few : count ≤ p.most
  pub at_in : at ≤ length t
  pub so_far : rows_at p t ≡ onward rs at (read_rows p (p.most - count) (p.least - count) above (drop at t))

pub start : (p : Part) (t : List ℕ) → Upto p t [] 0 0 0
start p t =
    record {
      many = refl;
      few = omega arith;
      at_in = omega arith;
      so_far = rw (sub-zero p.most, sub-zero p.least) (sym (onward_none (rows_at p t)));
    }

module _ {p : Part} {t : List ℕ} {rs : Rows} {count at above : ℕ} (s : Upto p t rs count at above) where
  ends : p.least ≤ count
      → read_rows p (p.most - count) (p.least - count) above (drop at t) ≡ no_more (p.least - count)
      → rows_at p t ≡ took at rs
  ends h e =
      let z : p.least - count ≡ 0 = omega arith in
      s.so_far ∙ rw (e, z) (onward_end rs at)

  -- there are no more rows: there may be none, or the text does not go on with one
  pub full : p.least ≤ count → p.most ≤ count → rows_at p t ≡ took at rs
  unfolding read_rows
  full h k =
      let z : p.most - count ≡ 0 = omega arith in
      ends h (rw z)

  pub stop : p.least ≤ count → kind_at p.kinds (drop at t) ≡ none → rows_at p t ≡ took at rs
  stop h k = ends h (rows_none p (p.most - count) (p.least - count) above (drop at t) k)

  pub none_more : p.least ≤ count → length t ≤ at → rows_at p t ≡ took at rs
  none_more h k = stop h (rw (drop_of_length-le t {i = at} k))

  -- one row more, of the kind l, found as f
  module _ (h : count < p.most) (l : Line) (k : kind_at p.kinds (drop at t) ≡ some l) where
    -- as the code lends it
    abbrev kind : Line
    kind = raised p.rising above l

    abbrev left : List ℕ
    left = take (length t - at) (drop at t)

    abbrev rest : Row → List ℕ → Found Rows
    rest r u = read_rows p (p.most - (count + 1)) (p.least - (count + 1)) (next_after r) u

    entered : {f : Found (List ℕ)} → outcome (read_line kind left) ≡ f
        → rows_at p t ≡ onward rs at (chained (mapped (line_row (letter_of l)) f) rest (drop at t))
    entered q =
        let a : p.most - count ≡ suc (p.most - (count + 1)) = omega arith in
        let b : p.least - count - 1 ≡ p.least - (count + 1) = omega arith in
        let e = rw (rest_part t at) at q in
        s.so_far ∙ rw (a, rows_more p (p.most - (count + 1)) (p.least - count) above (drop at t) l k, e, b)

    pub fault : {r : RowRead} {number place : ℕ} → RowOf kind left r → r ≡ NoRow number place
        → rows_at p t ≡ lost number (at + place)
    fault q v = entered (row_lost kind left q v)

    pub step : {a b c len : ℕ} → at + len ≤ length t → (q : Rowed kind left a b c len)
        → Upto p t (rs ++ (line_row (letter_of l) q.ns ∷ [])) (count + 1) (at + len) (suc a)
    step {a} {len = len} m q =
        let row : Row = line_row (letter_of l) q.ns in
        record {
          many = length-append rs (row ∷ []) ∙ rw s.many;
          few = omega arith;
          at_in = m;
          so_far =
              entered q.found
              ∙ rw (q.first, drop-drop len at t, ahead_onward len row (rest row (drop (at + len) t)))
              (onward_twice rs (row ∷ []) at len (rest row (drop (at + len) t)));
        }
