-- What is printed, path by path.
use mathlib.Core.Path.{◌≡◌, refl}
use mathlib.Core.Bool.{true}
use mathlib.Core.List.{List}
use Prim.Native.Nat.{ℕ, ◌≤◌, ◌<◌}
use borrow.Author.Tests.{lt-ltb, le-ltb}
use lib.ListN.{length, drop}
use Rattle.form.specs.Parts.{Rows}
use Rattle.form.specs.Outcome.{right, wrong}
use Rattle.sheet.specs.Sheet.{words_ok}
use Rattle.sheet.specs.SheetText.{read_sheet}
use Rattle.sheet.specs.EngineText.{read_engines, powers_of, weights_of}
use Rattle.sheet.proofs.Words.{words_of}
use Rattle.sheet.proofs.SheetText.{reads_written}
use Rattle.printout.specs.Input.{most_input, sheet_part, engine_part}
use Rattle.printout.specs.Printed.{input_text, plates_text, rows_printed, printed}

module _ (s t : List ℕ) where
  pub rows_fault : {number line byte : ℕ} → read_engines t ≡ wrong number line byte
      → rows_printed s t ≡ input_text number line byte
  unfolding rows_printed
  rows_fault e = rw (e, rows_printed) refl

  pub rows_plates : {rows : Rows} → read_engines t ≡ right rows
      → rows_printed s t ≡ plates_text s (powers_of rows) (weights_of rows)
  unfolding rows_printed
  rows_plates e = rw (e, rows_printed) refl

pub printed_long : (t : List ℕ) → most_input < length t → printed t ≡ input_text 2 0 0
unfolding printed
printed_long t h = rw (lt-ltb most_input (length t) h) refl

module _ (t : List ℕ) (h : length t ≤ most_input) where
  pub printed_fault : {number line byte : ℕ} → read_sheet (sheet_part t) ≡ wrong number line byte
      → printed t ≡ input_text number line byte
  unfolding printed
  printed_fault e = rw (le-ltb most_input (length t) h, e) refl

  pub printed_rows : {s : List ℕ} → read_sheet (sheet_part t) ≡ right s
      → printed t ≡ rows_printed (drop 1 s) (engine_part t)
  unfolding printed
  printed_rows e = rw (le-ltb most_input (length t) h, e) refl

-- the words of a sheet that was read are within the limits
pub read_ok : (t s : List ℕ) → read_sheet t ≡ right s → words_ok (drop 1 s) ≡ true
read_ok t s e = words_of s (reads_written t s e).within
