-- The loop that reads FIT lines: weights and counts read so far stand at their places, and the others are still 0.
use mathlib.Core.Path.{◌≡◌, refl, sym, ap, ◌∙◌}
use mathlib.Core.Bool.{false}
use mathlib.Core.List.{List, [], ◌∷◌, ◌++◌, append-nil}
use Prim.Native.Nat.{ℕ, zero, suc, ◌+◌, ◌-◌, ◌*◌, ◌≤◌, max}
use native.Mathlib.Omega.{arith}
use lib.ListN.{length, take, drop, replicate, length-replicate}
use lib.Seq.{sets, length-sets}
use Rattle.text.specs.Read.{Taken}
use Rattle.text.specs.Field.{begins}
use Rattle.text.specs.Limit.{ranging}
use Rattle.text.specs.Line.{Line}
use Rattle.ground.proofs.Stores.{rest_part, sets_zeros}
use Rattle.form.specs.Parts.{Rows, letter_of}
use Rattle.form.specs.Outcome.{Found, took, mapped}
use Rattle.form.proofs.Letters.{kind_away}
use Rattle.sheet.specs.Lines.{fittings, fit_line}
use Rattle.sheet.specs.SheetText.{fit_part, empty_lines, fits_from}
use Rattle.reading.specs.Filled.{Filled}
use Rattle.reading.proofs.RowsLoop as loop
use Rattle.reading.proofs.RowsLoop.{rows_at, Upto}

pub empty_zeros : (k : ℕ) → empty_lines k ≡ replicate (2 * k) 0
unfolding empty_lines
empty_zeros zero = refl
empty_zeros (suc k) =
    let n : 2 * suc k ≡ suc (suc (2 * k)) = omega arith in
    rw n (ap (λ (l : List ℕ). 0 ∷ 0 ∷ l) (empty_zeros k))

-- weights and counts of the FIT lines that t starts with
abbrev pub fits_at : List ℕ → Found (List ℕ)
fits_at t = mapped (fits_from 1) (rows_at fit_part t)

-- a FIT line whose number is from next on
abbrev pub fit_from : ℕ → Line
fit_from next = record { tag = fit_line.tag; limits = ranging next fittings ∷ drop 1 fit_line.limits }

abbrev pub fit_letter : ℕ
fit_letter = letter_of fit_line

-- rows are read, the last byte of them before `at`; the next line number may be `next`
pub record State (t o : List ℕ) (read at next : ℕ) : Type 0 where
  pub rows : Rows
  pub above : ℕ
  pub upto : Upto fit_part t rows read at above
  pub starts : next ≡ max 1 above
  pub so : List ℕ
  pub stored : o ≡ sets (replicate (2 * fittings) 0) 0 so
  pub many : length so + 2 ≡ 2 * next
  pub next_in : next ≤ suc fittings
  pub placed : (qs : Rows) → fits_from 1 (rows ++ qs) ≡ so ++ fits_from next qs

pub start : (t o : List ℕ) → o ≡ replicate (2 * fittings) 0 → State t o 0 0 1
start t o z =
    let upto = loop.start fit_part t in
    let placed : (qs : Rows) → fits_from 1 qs ≡ fits_from 1 qs = λ (qs : Rows). refl in
    record {
      rows = [];
      above = 0;
      upto = upto;
      starts = refl;
      so = [];
      stored = z;
      many = refl;
      next_in = omega arith;
      placed = placed;
    }

module _ {t o : List ℕ} {read at next : ℕ} (s : State t o read at next) where
  pub counted : length o ≡ 2 * fittings
  counted =
      ap length s.stored
      ∙ length-sets (replicate (2 * fittings) 0) 0 s.so
      ∙ length-replicate {A = ℕ} (2 * fittings) 0

  ends : rows_at fit_part t ≡ took at s.rows → Filled (fits_at t) t (Taken at) o
  unfolding fits_from
  ends e =
      let left : ℕ = suc fittings - next in
      let m : 2 * fittings - length s.so ≡ 2 * left = omega (arith, s.many) in
      let w : fits_from 1 s.rows ≡ s.so ++ empty_lines left =
      ap (fits_from 1) (sym (append-nil s.rows)) ∙ s.placed [] in
      let z = sets_zeros (2 * fittings) s.so (omega (arith, s.many, s.next_in)) in
      record {
        answer = rw e;
        stored = rw e (s.stored ∙ z ∙ rw (m, w, empty_zeros left));
        within = s.upto.at_in;
      }

  pub full : fittings ≤ read → Filled (fits_at t) t (Taken at) o
  full h = ends (loop.full s.upto (omega arith) h)

  pub stop : begins fit_letter (take (length t - at) (drop at t)) ≡ false → Filled (fits_at t) t (Taken at) o
  stop e =
      ends (loop.stop s.upto (omega arith) (kind_away fit_line (drop at t)
      (ap (begins fit_letter) (sym (rest_part t at)) ∙ e)))
