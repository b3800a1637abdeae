-- Demand 2, the single text: a sheet within the limits that is written reads back as itself, and a text that reads as a
-- sheet, renewed, is what that sheet is written as. Both follow from the form's.
use mathlib.Core.Path.{◌≡◌, sym, ap, ◌∙◌}
use mathlib.Core.Bool.{true}
use mathlib.Core.List.{List}
use mathlib.Core.Logic.{◌⊎◌}
use Prim.Native.Nat.{ℕ, ◌+◌, ◌≤◌}
use lib.ListN.{length}
use Rattle.form.specs.Outcome.{right, wrong}
use Rattle.form.specs.Reading.{read_form}
use Rattle.form.specs.Writing.{form_text}
use Rattle.form.proofs.Verdict.{saying_right, saying_wrong, form_most}
use Rattle.form.proofs.Trip as T
use Rattle.form.proofs.Faults.{form_fault}
use Rattle.sheet.specs.Lines.{lines, most_bytes}
use Rattle.sheet.specs.Places.{text_words}
use Rattle.sheet.specs.Sheet.{limits_on, sheet_ok}
use Rattle.sheet.specs.SheetText.{sheet_form, sheet_of, rows_of, read_sheet, sheet_text}
use Rattle.sheet.specs.Renewed.{renewed, is_new}
use Rattle.sheet.proofs.WellMade.{sheet_made}
use Rattle.sheet.proofs.Renewed.{new_renewed}
use Rattle.sheet.proofs.RenewedForm.{form_renewed}
use Rattle.sheet.proofs.Full.{lines_full_lem, ok_length}
use Rattle.sheet.proofs.SheetRows.{sheet_rows, rows_sheet, rows_ok, sheet_ok_lem}

-- for every sheet within the limits, reading what is written gives that sheet
pub written_reads : (s : List ℕ) → sheet_ok s ≡ true → read_sheet (sheet_text s) ≡ right s
unfolding read_sheet sheet_text
written_reads s h = rw (T.written_reads sheet_form (rows_of s) sheet_made (rows_ok s h), sheet_rows s h)

-- what a text that reads as a sheet is: what that sheet is written as is the text renewed, 02 (vi), and so the text
-- itself where all its FIT lines have three numbers; and the sheet is within the limits, so it can be written
pub record Written (t s : List ℕ) : Type 0 where
  pub text : renewed t ≡ sheet_text s
  pub same : is_new t ≡ true → t ≡ sheet_text s
  pub within : sheet_ok s ≡ true

pub reads_written : (t s : List ℕ) → read_sheet t ≡ right s → Written t s
unfolding read_sheet sheet_text
reads_written t s e =
    let (v, said, is) = saying_right sheet_of (read_form sheet_form t) s e in
    let (text, within) = T.reads_written sheet_form t v said in
    let new : renewed t ≡ form_text sheet_form (rows_of (sheet_of v)) =
    ap renewed text ∙ form_renewed v within ∙ ap (form_text sheet_form) (sym (rows_sheet v within)) in
    rw is (record { text = new; same = λ h. sym (new_renewed t h) ∙ new; within = sheet_ok_lem v within })

-- and renewed it reads alike
pub renewed_reads : (t s : List ℕ) → read_sheet t ≡ right s → read_sheet (renewed t) ≡ right s
renewed_reads t s e =
    let w = reads_written t s e in
    ap read_sheet w.text ∙ written_reads s w.within

-- a sheet that was read has all its words
pub sheet_count : (t s : List ℕ) → read_sheet t ≡ right s → length s ≡ text_words
unfolding limits_on
sheet_count t s e = ok_length lines s lines_full_lem (reads_written t s e).within

-- a text is refused with 2 or 3 alone
pub sheet_fault : (t : List ℕ) (number line byte : ℕ) → read_sheet t ≡ wrong number line byte
    → (number ≡ 2) ⊎ (number ≡ 3)
unfolding read_sheet
sheet_fault t number line byte e =
    form_fault sheet_form t number line byte (saying_wrong sheet_of (read_form sheet_form t) number line byte e)

pub sheet_most : (t : List ℕ) (number line byte : ℕ) → read_sheet t ≡ wrong number line byte
    → (line ≤ most_bytes + 1) × (byte ≤ most_bytes + 1)
unfolding read_sheet sheet_form
sheet_most t number line byte e =
    form_most sheet_form t number line byte (saying_wrong sheet_of (read_form sheet_form t) number line byte e)
