-- A turn of the loop that reads FIT lines.
use mathlib.Core.Path.{◌≡◌, sym, ap, ◌∙◌}
use mathlib.Core.Bool.{true}
use mathlib.Core.List.{List, [], ◌∷◌, ◌++◌, append_assoc}
use mathlib.Core.Option.{some}
use Prim.Native.Nat.{ℕ, suc, ◌+◌, ◌-◌, ◌*◌, ◌≤◌, ◌<◌, max}
use native.Mathlib.Numerals.{add-one}
use native.Mathlib.Omega.{arith}
use lib.ListN.{length, take, drop, set, replicate, length-append, length-replicate}
use lib.Seq.{sets}
use Rattle.text.specs.Read.{Fault}
use Rattle.text.specs.Field.{begins}
use Rattle.ground.proofs.Stores.{rest_part, sets_append, zeros_stored}
use Rattle.form.specs.Parts.{Row, Rows, line_row}
use Rattle.form.specs.Reading.{kind_at}
use Rattle.form.proofs.Letters.{kind_here}
use Rattle.sheet.specs.Lines.{fittings, fit_line}
use Rattle.sheet.specs.SheetText.{fit_part, empty_lines, fits_from}
use Rattle.reading.specs.Rows.{RowRead}
use Rattle.reading.specs.Rows.{Numbers, NoRow}
use Rattle.reading.specs.Filled.{Filled}
use Rattle.reading.specs.Rows.{row_reach, RowOf}
use Rattle.reading.proofs.Row.{Rowed, rowed, first_in}
use Rattle.reading.proofs.RowsLoop as loop
use Rattle.reading.proofs.RowsLoop.{part_in}
use Rattle.reading.proofs.FitsLoop.{fits_at, fit_from, fit_letter, empty_zeros, State, counted}

-- a turn of the loop, after the row was read as r
pub record Turn (t o : List ℕ) (read at next : ℕ) (r : RowRead) : Type 0 where
  pub state : State t o read at next
  pub few : read < fittings
  pub begun : begins fit_letter (take (length t - at) (drop at t)) ≡ true
  pub row : RowOf (fit_from next) (take (length t - at) (drop at t)) r

-- what the stores and the sums of a turn need, where line n was read from len bytes
pub record Room (t o : List ℕ) (at n len : ℕ) : Type 0 where
  pub first : 1 ≤ n
  pub last : n ≤ fittings
  pub long : length o ≡ 2 * fittings
  pub within : at + len ≤ length t

module _ {t o : List ℕ} {read at next : ℕ} {r : RowRead} (p : Turn t o read at next r) where
  abbrev s : State t o read at next
  s = p.state

  here : kind_at fit_part.kinds (drop at t) ≡ some fit_line
  here = kind_here fit_line (drop at t) (ap (begins fit_letter) (sym (rest_part t at)) ∙ p.begun)

  row : RowOf (fit_from (max 1 s.above)) (take (length t - at) (drop at t)) r
  row = rw s.starts at p.row

  pub place_in : at + row_reach r ≤ length t
  place_in = part_in t s.upto.at_in p.row.within

  pub fault : {number place : ℕ} → r ≡ NoRow number place → Filled (fits_at t) t (Fault number (at + place)) o
  fault v =
      let f = loop.fault s.upto p.few fit_line here row v in
      record { answer = rw f; stored = rw f; within = omega (arith, place_in, ap row_reach v) }

  module _ {n w c len : ℕ} (v : r ≡ Numbers n w c len) where
    found : Rowed (fit_from (max 1 s.above)) (take (length t - at) (drop at t)) n w c len
    found = rowed _ _ row v

    line_in : (next ≤ n) × (n ≤ fittings)
    line_in =
        let b = first_in (max 1 s.above) fittings (drop 1 fit_line.limits) found.ns found.held in
        (omega (arith, b, s.starts, found.first), omega (arith, b, found.first))

    len_in : at + len ≤ length t
    len_in = omega (arith, place_in, ap row_reach v)

    pub room : Room t o at n len
    room = record { first = omega (arith, line_in, s.many); last = line_in.1; long = counted s; within = len_in }

    -- the lines without a fitting before this one
    abbrev gap : List ℕ
    gap = empty_lines (n - next)

    gap_long : length (s.so ++ gap) ≡ 2 * (n - 1)
    gap_long =
        let g : length gap ≡ 2 * (n - next) =
        ap length (empty_zeros (n - next)) ∙ length-replicate {A = ℕ} (2 * (n - next)) 0 in
        omega (arith, length-append s.so gap, s.many, line_in)

    both_stored : set (set o (2 * (n - 1)) w) (2 * (n - 1) + 1) c
        ≡ sets (replicate (2 * fittings) 0) 0 ((s.so ++ gap) ++ (w ∷ c ∷ []))
    both_stored =
        let zs : List ℕ = replicate (2 * fittings) 0 in
        let z : 2 * (n - 1) ≡ 0 + length (s.so ++ gap) = omega (arith, gap_long) in
        let d : o ≡ sets zs 0 (s.so ++ gap) =
        s.stored
        ∙ sym (zeros_stored (2 * fittings) (2 * (n - next)) s.so (omega (arith, s.many, line_in)))
        ∙ rw (empty_zeros (n - next)) in
        ap (λ (x : List ℕ). set (set x (2 * (n - 1)) w) (2 * (n - 1) + 1) c) d
        ∙ rw (add-one (2 * (n - 1)), z) (sym (sets_append zs 0 (s.so ++ gap) (w ∷ c ∷ [])))

    abbrev fit : Row
    fit = line_row fit_letter found.ns

    moved : (qs : Rows)
        → fits_from 1 ((s.rows ++ (fit ∷ [])) ++ qs) ≡ ((s.so ++ gap) ++ (w ∷ c ∷ [])) ++ fits_from (n + 1) qs
    unfolding fits_from
    moved qs =
        let rest : List ℕ = fits_from (n + 1) qs in
        ap (fits_from 1) (append_assoc s.rows (fit ∷ []) qs)
        ∙ (s.placed (fit ∷ qs)
        ∙ rw (
          append_assoc (s.so ++ gap) (w ∷ c ∷ []) rest,
          append_assoc s.so gap (w ∷ c ∷ rest),
          add-one n,
          ← found.first,
          ← found.second,
          ← found.third,
        ))

    pub step : State t (set (set o (2 * (n - 1)) w) (2 * (n - 1) + 1) c) (read + 1) (at + len) (n + 1)
    step =
        record {
          rows = s.rows ++ (fit ∷ []);
          above = suc n;
          upto = loop.step s.upto p.few fit_line here len_in found;
          starts = omega arith;
          so = (s.so ++ gap) ++ (w ∷ c ∷ []);
          stored = both_stored;
          many = omega (arith, length-append (s.so ++ gap) (w ∷ c ∷ []), gap_long, line_in);
          next_in = omega (arith, line_in);
          placed = moved;
        }
