-- What the code that lays a print leaves, path by path.
use mathlib.Core.Path.{◌≡◌, sym, ◌∙◌}
use mathlib.Core.Logic.{◌≢◌}
use mathlib.Core.Bool.{Bool, true, false, true≢false}
use mathlib.Core.List.{List, ◌++◌}
use Prim.Native.Nat.{ℕ, ◌+◌, ◌-◌, ◌≤◌}
use native.Mathlib.Omega.{arith}
use lib.Dec.{eqb}
use lib.ListN.{length, take, drop, length-append, length-drop}
use lib.Seq.{take_all}
use Rattle.std.specs.List.{starts_with}
use Rattle.std.proofs.lemmas.Bool.Decides.{Decides-eqb}
use Rattle.std.proofs.lemmas.Slice.Eq.{starts_is}
use Rattle.text.specs.Field.{agreed}
use Rattle.text.proofs.Field.{agreed_whole, agreed_self}
use Rattle.text.specs.Read.{Whole, Wrong}
use Rattle.text.specs.Line.{Laid}
use Rattle.ground.proofs.Stores.{put_back, rest_part}
use Rattle.text.proofs.Laid.{laid_more, laid_part, laid_length}
use Rattle.sheet.specs.Sheet.{words_ok}
use Rattle.sheet.specs.Places.{sheet_words}
use Rattle.sheet.specs.SheetText.{read_sheet}
use Rattle.sheet.specs.EngineText.{read_engines}
use Rattle.sheet.proofs.SheetText.{sheet_count}
use Rattle.reading.specs.Filled.{Heard}
use Rattle.reading.specs.Rows.{HeardRows}
use Rattle.reading.proofs.Heard.{told_wrong, heard_right}
use Rattle.reading.proofs.EnginesCall.{Held}
use Rattle.printout.specs.Input.{most_input, sheet_bytes}
use Rattle.printout.specs.Printed.{input_text, plates_text, rows_printed, printed}
use Rattle.printout.proofs.Printed.{rows_fault, rows_plates, printed_fault, printed_rows, read_ok}

-- ---- a tag that a text starts with agrees whole, and no other does

pub starts_agreed : (t tag : List ℕ) {r : Bool} → r ≡ starts_with eqb t tag
    → (r ≡ true → agreed tag t ≡ length tag) × (r ≡ false → agreed tag t ≢ length tag)
starts_agreed t tag {r} e =
    let is = starts_is Decides-eqb t tag r e in
    (λ y. rw (is.0 y) (agreed_self tag _), λ n w. true≢false (sym (is.1 _ (agreed_whole tag t w)) ∙ n))

-- ---- plates A and C, one after the other

module _ {x o₀ o₁ : List ℕ} {end : ℕ} (p : Laid x o₀ 0 end o₁) where
  pub first_in : (y : List ℕ) → length (x ++ y) ≤ length o₀ → end ≤ length o₁
  first_in y h = omega (arith, p.end, laid_length p, length-append x y)

  module _ {y ys : List ℕ} {r : ℕ} (q : Laid y (take (length o₁ - end) (drop end o₁)) 0 r ys) where
    pub both_long : end + r ≡ length (x ++ y)
    both_long = omega (arith, p.end, q.end, length-append x y)

    pub both_laid : Laid (x ++ y) o₀ 0 (end + r) (put_back o₁ end ys)
    both_laid = laid_more p (laid_part y o₁ ys end r q)

-- ---- the engine rows

module _ (s t : List ℕ) {c d : List ℕ} where
  pub fault_printed : {number line byte : ℕ} → HeardRows (read_engines t) (Wrong number line byte) c d
      → input_text number line byte ≡ rows_printed s t
  fault_printed p = sym (rows_fault s t (told_wrong length (read_engines t) p.answer))

  -- the first of the two columns that were lent are the rows
  pub columns_printed : {n : ℕ} → Held (read_engines t) n c d → plates_text s (take n c) (take n d) ≡ rows_printed s t
  columns_printed p = rw (p.powers, p.weights) (sym (rows_plates s t p.is))

-- ---- the whole

module _ (t : List ℕ) (h : length t ≤ most_input) {end : ℕ} (q : end ≡ sheet_bytes true t) where
  pub sheet_printed : {number line byte : ℕ} {o : List ℕ} → Heard (read_sheet (take end t)) (Wrong number line byte) o
      → input_text number line byte ≡ printed t
  sheet_printed p = sym (printed_fault t h (rw q at (told_wrong length (read_sheet (take end t)) p.answer)))

  module _ {k : ℕ} {o : List ℕ} (p : Heard (read_sheet (take end t)) (Whole k) o) where
    words : take sheet_words (drop 1 o) ≡ drop 1 o
    words =
        take_all sheet_words (drop 1 o) (omega (arith, length-drop 1 o, sheet_count (take end t) o (heard_right p)))

    pub words_ok_lem : words_ok (take sheet_words (drop 1 o)) ≡ true
    words_ok_lem = rw words (read_ok (take end t) o (heard_right p))

    pub rows_printed_lem : rows_printed (take sheet_words (drop 1 o)) (take (length t - end) (drop end t)) ≡ printed t
    rows_printed_lem = rw (words, rest_part t end, q) (sym (printed_rows t h (rw q at (heard_right p))))
