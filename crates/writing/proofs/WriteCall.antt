-- A whole sheet, and what the call that writes it answers.
use mathlib.Core.Path.{◌≡◌, sym, ap, ◌∙◌}
use mathlib.Core.Bool.{true}
use mathlib.Core.List.{List, [], ◌++◌, append_assoc}
use Prim.Native.Nat.{ℕ, ◌+◌, ◌-◌, ◌≤◌}
use native.Mathlib.Omega.{arith}
use borrow.Author.Tests.{le-leb}
use lib.ListN.{length, take, drop, length-append}
use lib.Seq.{sets}
use Rattle.text.specs.Line.{line_text}
use Rattle.ground.proofs.Stores.{rest_part, sets_start}
use Rattle.answers.specs.Answer.{Count}
use Rattle.answers.specs.Settled.{Settled}
use Rattle.sheet.specs.Lines.{end_line}
use Rattle.sheet.specs.Sheet.{sheet_ok}
use Rattle.sheet.specs.Places.{fittings_at}
use Rattle.sheet.specs.SheetText.{sheet_text}
use Rattle.sheet.specs.TextCalls.{write_answer, write_into}
use Rattle.sheet.proofs.Writing.{text_on, text_fits}
use Rattle.writing.specs.Pieces.{fits_text}

-- ---- a whole sheet

-- where the fittings start among a sheet's numbers
abbrev pub fits_from : ℕ
fits_from = 1 + fittings_at

-- the fittings, as the code lends them
abbrev pub fits_of : List ℕ → List ℕ
fits_of s = take (length s - fits_from) (drop fits_from s)

-- after the lines so, the fittings and END make the text
module _ (s so : List ℕ) (p : so ++ text_on [] (drop fits_from s) ≡ sheet_text s) where
  pub parted : (so ++ fits_text 1 (fits_of s)) ++ line_text end_line [] ≡ sheet_text s
  parted =
      let rest : fits_text 1 (fits_of s) ++ line_text end_line [] ≡ text_on [] (drop fits_from s) =
      rw (rest_part s fits_from) (sym (text_fits (drop fits_from s))) in
      append_assoc so (fits_text 1 (fits_of s)) (line_text end_line []) ∙ ap (λ (x : List ℕ). so ++ x) rest ∙ p

  pub lengths : length (sheet_text s)
      ≡ length so + length (fits_text 1 (fits_of s)) + length (line_text end_line [])
  lengths =
      let f : List ℕ = fits_text 1 (fits_of s) in
      sym (ap length parted)
      ∙ omega (arith, length-append (so ++ f) (line_text end_line []), length-append so f)

-- ---- the call, where the sheet is within the limits and text is its text

module _ (s o : List ℕ) {text : List ℕ} (ok : sheet_ok s ≡ true) (e : text ≡ sheet_text s) where
  pub settled_written : {o₁ : List ℕ} → length text ≤ length o
      → o₁ ≡ sets o 0 text
      → Settled (write_answer s (length o)) (write_into s o) (Count (length text)) o₁
  settled_written h w =
      let fits : length (sheet_text s) ≤ length o = omega (arith, ap length e) in
      let n = le-leb (length (sheet_text s)) (length o) fits in
      let q = w ∙ ap (sets o 0) e ∙ sets_start o (sheet_text s) fits in
      record { answered = rw (ok, n, e); kept = rw (ok, n) q }
