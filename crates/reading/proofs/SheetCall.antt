-- A whole sheet: what the code leaves, and what its text says.
use mathlib.Core.Path.{◌≡◌, refl, sym, ap, ◌∙◌}
use mathlib.Core.List.{List, [], ◌++◌, append-nil}
use Prim.Native.Nat.{ℕ, ◌+◌, ◌-◌, ◌*◌, ◌≤◌, ◌<◌}
use native.Mathlib.Omega.{arith}
use lib.ListN.{length, take, drop, replicate, length-drop, drop_of_length-le}
use lib.Seq.{take_at, drop_at}
use Rattle.text.specs.Read.{LineRead}
use Rattle.text.specs.Read.{Taken, Fault}
use Rattle.text.specs.Read.{Whole, Wrong}
use Rattle.text.specs.Read.{shift_by}
use Rattle.text.specs.Place.{line_at, byte_at}
use Rattle.ground.proofs.Stores.{put_back, rest_part, sets_zeros}
use Rattle.form.specs.Outcome.{Found, took, lost, right, placed}
use Rattle.form.proofs.Verdict.{form_long, form_said}
use Rattle.sheet.proofs.SheetText.{sheet_count}
use Rattle.sheet.specs.Lines.{lines, fittings, most_bytes}
use Rattle.sheet.specs.Places.{text_words, fittings_at}
use Rattle.sheet.specs.SheetText.{sheet_form, sheet_of, read_sheet}
use Rattle.reading.specs.Filled.{ended_as, found_into, Filled, Heard}
use Rattle.text.specs.Read.{reached}
use Rattle.reading.specs.Steps.{onward, rest_on, Past}
use Rattle.reading.proofs.Found.{ended_onward, filled_fault, filled_taken}
use Rattle.reading.proofs.RowsLoop.{part_in}
use Rattle.reading.proofs.NextLine.{reached_shift}

-- ---- a whole sheet

abbrev line_words : ℕ
line_words = 1 + fittings_at

into_onward : (k : ℕ) (so : List ℕ) (f : Found (List ℕ)) {ys : List ℕ} → ys ≡ found_into f ys
    → so ++ ys ≡ found_into (onward so k f) (so ++ ys)
into_onward k so (took j s) e = ap (λ (l : List ℕ). so ++ l) e
into_onward k so (lost number at) e = refl

-- ys come back for what stands after so
part_after : (o so zs : List ℕ) {n : ℕ} → o ≡ so ++ zs → length so ≡ n → (ys : List ℕ) → put_back o n ys ≡ so ++ ys
part_after o so zs {n} e m ys =
    let d : drop (length o - n) (drop n o) ≡ [] = drop_of_length-le (drop n o) {i = length o - n}
    (omega (arith, length-drop n o)) in
    let f : take n o ≡ so = ap (take n) e ∙ take_at so zs n m in
    rw (d, append-nil ys, f)

-- the lines are read, and the words after theirs are still 0
module _ (t : List ℕ) {at : ℕ} {o : List ℕ} (p : Past t line_words (Taken at) o) where
  standing : o ≡ p.so ++ replicate (2 * fittings) 0
  standing = p.stored ∙ (sets_zeros text_words p.so (omega (arith, p.many)) ∙ rw p.many)

  pub words_zeros : take (length o - line_words) (drop line_words o) ≡ replicate (2 * fittings) 0
  words_zeros = rest_part o line_words ∙ rw standing (drop_at p.so (replicate (2 * fittings) 0) line_words p.many)

  module _ {r : LineRead} {ys : List ℕ}
      (q : Filled (rest_on [] (take (length t - at) (drop at t))) (take (length t - at) (drop at t)) r ys) where
    rest_in : at + reached r ≤ length t
    rest_in = part_in t p.within q.within

    pub words_read : Filled (rest_on lines t) t (shift_by at r) (put_back o line_words ys)
    words_read =
        let e : rest_on lines t ≡ onward p.so at (rest_on [] (drop at t)) = p.goes in
        let f : r ≡ ended_as (rest_on [] (drop at t)) = q.answer ∙ rw (rest_part t at) in
        record {
          answer = rw (e, f) (ended_onward p.so at (rest_on [] (drop at t)));
          stored = rw (part_after o p.so (replicate (2 * fittings) 0) standing p.many ys, e)
              (into_onward at p.so (rest_on [] (drop at t)) (rw (rest_part t at) at q.stored));
          within = rw (reached_shift at r) rest_in;
        }

-- ---- a whole text

pub heard_long : (t o : List ℕ) → most_bytes < length t → Heard (read_sheet t) (Wrong 2 0 0) o
unfolding read_sheet sheet_form
heard_long t o h = let e = form_long sheet_form t h in record { answer = rw e; stored = rw e }

-- what a sheet's text says, by what was found of all its parts
sheet_said : (t : List ℕ) → length t ≤ most_bytes → read_sheet t ≡ placed t (rest_on lines t)
unfolding read_sheet sheet_form rest_on
sheet_said t h = form_said sheet_form t sheet_of h

module _ (t : List ℕ) (h : length t ≤ most_bytes) {o : List ℕ} where
  pub heard_wrong : {number at : ℕ} → Filled (rest_on lines t) t (Fault number at) o
      → Heard (read_sheet t) (Wrong number (line_at t at) (byte_at t at)) o
  heard_wrong p =
      let e = sheet_said t h ∙ ap (placed t) (filled_fault p) in record { answer = rw e; stored = rw e }

  pub heard_whole : {k : ℕ} → Filled (rest_on lines t) t (Taken k) o → Heard (read_sheet t) (Whole text_words) o
  heard_whole p =
      let e : read_sheet t ≡ right o = sheet_said t h ∙ ap (placed t) (filled_taken p) in
      record { answer = rw e (ap Whole (sym (sheet_count t o e))); stored = rw e }
