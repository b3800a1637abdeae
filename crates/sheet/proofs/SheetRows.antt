-- A sheet's numbers and the rows of its text are the same thing, with the same limits, but that a FIT row may leave out
-- its count.
use mathlib.Core.Path.{◌≡◌, refl, sym, ap}
use mathlib.Core.Bool.{true, false, true≢false, ◌&&◌}
use mathlib.Core.List.{List, [], ◌∷◌, ◌++◌, append-nil}
use Prim.Native.Nat.{ℕ}
use native.Mathlib.Omega.{arith}
use lib.ListN.{length, take, drop, take-append-drop}
use lib.Seq.{take_at, drop_at}
use Rattle.text.specs.Limit.{all_hold}
use Rattle.text.specs.Line.{Line}
use Rattle.ground.proofs.Booleans.{both_hold}
use Rattle.text.proofs.Limits.{full, hold_length}
use Rattle.form.specs.Parts.{Rows, line_row, one_line, letter_of, numbers_of}
use Rattle.form.specs.Writing.{part_ok, parts_ok, form_ok}
use Rattle.form.proofs.Held.{part_held, held_part}
use Rattle.form.proofs.Single.{single, single_ok}
use Rattle.sheet.specs.Lines.{lines, fittings, end_line}
use Rattle.sheet.specs.Sheet.{ok_on, sheet_ok}
use Rattle.sheet.specs.SheetText.{fit_part, each_once, sheet_form, fit_rows, fits_of, last_parts}
use Rattle.sheet.specs.SheetText.{numbers_on, sheet_of, rows_on, rows_of}
use Rattle.sheet.proofs.Fits.{counted_rows, fits_rows, rows_fits}
use Rattle.sheet.proofs.FitLimits.{fits_few, fits_ok_lem, fits_held}
use Rattle.sheet.proofs.Full.{lines_full, lines_full_lem}

-- ---- from numbers to rows and back

numbers_on_lem : (ls : List Line) (s : List ℕ) → ok_on ls s ≡ true → numbers_on ls (rows_on ls s) ≡ s
unfolding numbers_on rows_on fits_of numbers_of ok_on
numbers_on_lem [] s h = fits_rows s h
numbers_on_lem (l ∷ ls) s h =
    let n : ℕ = length l.limits in
    let hs = both_hold (all_hold l.limits 0 (take n s)) (ok_on ls (drop n s)) h in
    rw (append-nil (take n s), numbers_on_lem ls (drop n s) hs.1) (take-append-drop n s)

-- a sheet within the limits, as rows, is that sheet
pub sheet_rows : (s : List ℕ) → sheet_ok s ≡ true → sheet_of (rows_of s) ≡ s
sheet_rows s h = numbers_on_lem lines s h

-- rows of which those of fittings have their counts
unfoldable pub counted_on : List Line → List Rows → List Rows
counted_on [] [] = []
counted_on [] (rs ∷ v) = counted_rows rs ∷ v
counted_on (l ∷ ls) [] = []
counted_on (l ∷ ls) (rs ∷ v) = rs ∷ counted_on ls v

rows_last : (v : List Rows) → parts_ok last_parts v ≡ true → rows_on [] (numbers_on [] v) ≡ counted_on [] v
unfolding numbers_on rows_on fits_of parts_ok all_hold counted_on
rows_last [] h = absurd (true≢false (sym h))
rows_last (rs ∷ []) h = absurd (true≢false (sym (both_hold (part_ok fit_part rs) false h).1))
rows_last (rs ∷ es ∷ q ∷ v) h =
    let hs = both_hold (part_ok fit_part rs) _ h in
    absurd (true≢false (sym (both_hold (part_ok (one_line end_line) es) false hs.1).1))
rows_last (rs ∷ es ∷ []) h =
    let hs = both_hold (part_ok fit_part rs) (part_ok (one_line end_line) es && true) h in
    let e = single end_line es (both_hold (part_ok (one_line end_line) es) true hs.1).0 in
    rw (e.is, rows_fits rs (part_held fit_part rs hs.0).held)
    (ap (λ (ns : List ℕ). counted_rows rs ∷ (line_row (letter_of end_line) ns ∷ []) ∷ []) (sym (none e.ns e.held)))
  where
    none : (ns : List ℕ) → all_hold [] 0 ns ≡ true → ns ≡ []
    none [] h = refl
    none (n ∷ ns) h = absurd (true≢false (sym h))

-- the numbers of one line, and those after them
module _ (l : Line) (rs : Rows) (s : List ℕ) (f : full l.limits ≡ true) (h : part_ok (one_line l) rs ≡ true) where
  pub record Parted : Type 0 where
    pub ns : List ℕ
    pub is : rs ≡ line_row (letter_of l) ns ∷ []
    pub held : all_hold l.limits 0 ns ≡ true
    pub first : take (length l.limits) (ns ++ s) ≡ ns
    pub rest : drop (length l.limits) (ns ++ s) ≡ s

  parted : Parted
  parted =
      let e = single l rs h in
      let n : length e.ns ≡ length l.limits = hold_length l.limits 0 e.ns f e.held in
      record {
        ns = e.ns;
        is = e.is;
        held = e.held;
        first = take_at e.ns s (length l.limits) n;
        rest = drop_at e.ns s (length l.limits) n;
      }

rows_on_lem : (ls : List Line) (v : List Rows) → lines_full ls ≡ true → parts_ok (each_once ls last_parts) v ≡ true
    → rows_on ls (numbers_on ls v) ≡ counted_on ls v
unfolding numbers_on rows_on parts_ok numbers_of counted_on lines_full
rows_on_lem [] v f h = rows_last v h
rows_on_lem (l ∷ ls) [] f h = absurd (true≢false (sym h))
rows_on_lem (l ∷ ls) (rs ∷ v) f h =
    let fs = both_hold (full l.limits) (lines_full ls) f in
    let hs = both_hold (part_ok (one_line l) rs) (parts_ok (each_once ls last_parts) v) h in
    let e = parted l rs (numbers_on ls v) fs.0 hs.0 in
    rw (e.is, append-nil e.ns, e.first, e.rest, rows_on_lem ls v fs.1 hs.1)

-- rows within the limits, as a sheet's numbers, are those rows with their counts
pub rows_sheet : (v : List Rows) → form_ok sheet_form v ≡ true → rows_of (sheet_of v) ≡ counted_on lines v
unfolding sheet_form
rows_sheet v h = rows_on_lem lines v lines_full_lem h

-- ---- the same limits

ok_on_lem : (ls : List Line) (s : List ℕ) → ok_on ls s ≡ true → parts_ok (each_once ls last_parts) (rows_on ls s) ≡ true
unfolding parts_ok rows_on ok_on all_hold
ok_on_lem [] s h =
    let ok = fits_ok_lem fittings s 0 1 h (omega arith) (omega arith) (omega arith) in
    let few = fits_few fittings 1 s h in
    let f = held_part fit_part (fit_rows 1 s) (omega arith) (omega arith) ok in
    rw (f, single_ok end_line [] refl)
ok_on_lem (l ∷ ls) s h =
    let n : ℕ = length l.limits in
    let hs = both_hold (all_hold l.limits 0 (take n s)) (ok_on ls (drop n s)) h in
    rw (single_ok l (take n s) hs.0) (ok_on_lem ls (drop n s) hs.1)

pub rows_ok : (s : List ℕ) → sheet_ok s ≡ true → form_ok sheet_form (rows_of s) ≡ true
unfolding sheet_form
rows_ok s h = ok_on_lem lines s h

held_on : (ls : List Line) (v : List Rows) → lines_full ls ≡ true → parts_ok (each_once ls last_parts) v ≡ true
    → ok_on ls (numbers_on ls v) ≡ true
unfolding parts_ok numbers_on fits_of ok_on numbers_of lines_full
held_on [] [] f h = absurd (true≢false (sym h))
held_on [] (rs ∷ v) f h =
    let k = both_hold (part_ok fit_part rs) (parts_ok (one_line end_line ∷ []) v) h in
    fits_held rs 0 1 refl (omega arith) (part_held fit_part rs k.0).held
held_on (l ∷ ls) [] f h = absurd (true≢false (sym h))
held_on (l ∷ ls) (rs ∷ v) f h =
    let fs = both_hold (full l.limits) (lines_full ls) f in
    let hs = both_hold (part_ok (one_line l) rs) (parts_ok (each_once ls last_parts) v) h in
    let e = parted l rs (numbers_on ls v) fs.0 hs.0 in
    rw (e.is, append-nil e.ns, e.first, e.rest, e.held) (held_on ls v fs.1 hs.1)

pub sheet_ok_lem : (v : List Rows) → form_ok sheet_form v ≡ true → sheet_ok (sheet_of v) ≡ true
unfolding sheet_form
sheet_ok_lem v h = held_on lines v lines_full_lem h
