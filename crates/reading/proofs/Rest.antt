-- What follows the line SEAT: fittings, END, and then nothing.
use mathlib.Core.Path.{◌≡◌, refl, ap, ◌∙◌}
use mathlib.Core.List.{List, [], ◌∷◌}
use Prim.Native.Nat.{ℕ, ◌+◌, ◌-◌, ◌≤◌, ◌<◌}
use native.Mathlib.Omega.{arith}
use lib.ListN.{length, take, drop, length-drop}
use Rattle.text.specs.Read.{LineRead}
use Rattle.text.specs.Read.{Taken, Fault}
use Rattle.text.specs.Field.{agreed}
use Rattle.text.specs.Line.{read_numbers, read_line}
use Rattle.text.specs.Read.{shift_by}
use Rattle.ground.proofs.Stores.{rest_part}
use Rattle.text.proofs.Field.{agreed_fits}
use Rattle.text.proofs.Line.{line_tagged, line_untagged}
use Rattle.form.specs.Parts.{Rows, one_line}
use Rattle.form.specs.Outcome.{Found, took, lost, mapped, ahead}
use Rattle.form.specs.Reading.{read_parts}
use Rattle.sheet.specs.Lines.{end_line}
use Rattle.sheet.specs.SheetText.{fit_part, fits_from, fits_of, numbers_on}
use Rattle.reading.specs.Filled.{ended_as, Filled, found_into}
use Rattle.text.specs.Read.{reached}
use Rattle.reading.specs.Steps.{rest_on}
use Rattle.reading.proofs.Found.{found_taken, found_fault, ended_mapped}
use Rattle.reading.proofs.RowsLoop.{rows_at, part_in}
use Rattle.reading.proofs.NextLine.{reached_shift}
use Rattle.reading.proofs.FitsLoop.{fits_at}
use Rattle.reading.proofs.Row.{one_taken, one_lost}

-- ---- END

abbrev end_at : List ℕ → Found (List Rows)
end_at t = read_parts (one_line end_line ∷ []) t

pub end_broken : (t : List ℕ) → agreed end_line.tag t < 4
    → (Fault 2 (agreed end_line.tag t) ≡ ended_as (end_at t)) × (agreed end_line.tag t ≤ length t)
unfolding read_parts
end_broken t h =
    let same : ℕ = agreed end_line.tag t in
    let e = line_untagged end_line t (λ (d : same ≡ 4). omega arith) in
    let f = one_lost end_line t (omega arith) {number = 2} {at = same} (rw e) in
    (rw f, agreed_fits end_line.tag t)

module _ (t : List ℕ) (e : agreed end_line.tag t ≡ 4) where
  end_taken : (read_line end_line t).ended ≡ Taken 4
  unfolding read_numbers
  end_taken = rw (line_tagged end_line t e)

  pub end_more : 4 < length t → (Fault 2 4 ≡ ended_as (end_at t)) × (4 ≤ length t)
  unfolding read_parts
  end_more h = (go (drop 4 t) refl, omega arith)
    where
      go : (u : List ℕ) → drop 4 t ≡ u → Fault 2 4 ≡ ended_as (end_at t)
      go [] d = absurd (omega (arith, ap length d, length-drop 4 t))
      go (b ∷ u) d = rw ((one_taken end_line t (omega arith) end_taken).1, d)

  pub end_last : length t ≤ 4 → (Taken 4 ≡ ended_as (end_at t)) × (4 ≤ length t)
  unfolding read_parts
  end_last h = (go (drop 4 t) refl, omega (arith, agreed_fits end_line.tag t))
    where
      go : (u : List ℕ) → drop 4 t ≡ u → Taken 4 ≡ ended_as (end_at t)
      go [] d = rw ((one_taken end_line t (omega arith) end_taken).1, d)
      go (b ∷ u) d = absurd (omega (arith, ap length d, length-drop 4 t))

-- ---- after SEAT

-- at bytes gave the fittings ws; then END was read
abbrev closed : ℕ → List ℕ → Found (List Rows) → Found (List ℕ)
closed at ws (took k v) = took (at + k) ws
closed at ws (lost number i) = lost number (at + i)

closed_ended : (at : ℕ) (ws : List ℕ) (f : Found (List Rows)) → shift_by at (ended_as f) ≡ ended_as (closed at ws f)
closed_ended at ws (took k v) = refl
closed_ended at ws (lost number i) = refl

closed_into : (at : ℕ) (ws : List ℕ) (f : Found (List Rows)) {o : List ℕ} → o ≡ ws → o ≡ found_into (closed at ws f) o
closed_into at ws (took k v) e = e
closed_into at ws (lost number i) e = refl

rest_closed : (t : List ℕ) {at : ℕ} {rs : Rows} → rows_at fit_part t ≡ took at rs
    → rest_on [] t ≡ closed at (fits_from 1 rs) (end_at (drop at t))
unfolding rest_on read_parts numbers_on fits_of
rest_closed t {at} {rs} e = rw e (go (end_at (drop at t)))
  where
    go : (f : Found (List Rows)) → mapped (numbers_on []) (ahead at rs f) ≡ closed at (fits_from 1 rs) f
    go (took k v) = refl
    go (lost number i) = refl

pub rest_fault : (t : List ℕ) {number at : ℕ} {o : List ℕ} → Filled (fits_at t) t (Fault number at) o
    → Filled (rest_on [] t) t (Fault number at) o
unfolding rest_on read_parts
rest_fault t p =
    let e = found_fault (rows_at fit_part t) (p.answer ∙ ended_mapped (fits_from 1) (rows_at fit_part t)) in
    record { answer = rw e; stored = rw e; within = p.within }

module _ (t : List ℕ) {at : ℕ} {o : List ℕ} (p : Filled (fits_at t) t (Taken at) o) {r : LineRead}
    (q : (r ≡ ended_as (end_at (take (length t - at) (drop at t))))
    × (reached r ≤ length (take (length t - at) (drop at t)))) where
  end_in : at + reached r ≤ length t
  end_in = part_in t p.within q.1

  pub rest_read : Filled (rest_on [] t) t (shift_by at r) o
  rest_read =
      let f = found_taken (rows_at fit_part t) (p.answer ∙ ended_mapped (fits_from 1) (rows_at fit_part t)) in
      let e : rest_on [] t ≡ closed at (fits_from 1 f.0) (end_at (drop at t)) = rest_closed t f.1 in
      let d : r ≡ ended_as (end_at (drop at t)) = q.0 ∙ rw (rest_part t at) in
      record {
        answer = rw (d, e) (closed_ended at (fits_from 1 f.0) (end_at (drop at t)));
        stored = rw e (closed_into at (fits_from 1 f.0) (end_at (drop at t)) (rw f.1 at p.stored));
        within = rw (reached_shift at r) end_in;
      }
