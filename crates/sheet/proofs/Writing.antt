-- The text of a sheet, line by line as it is written.
use mathlib.Core.Path.{◌≡◌, refl, ap, ◌∙◌}
use mathlib.Core.Bool.{true, false}
use mathlib.Core.List.{List, [], ◌∷◌, ◌++◌, append-nil}
use Prim.Native.Nat.{ℕ, suc}
use lib.Dec.{eqb}
use lib.ListN.{length, take, drop}
use Rattle.text.specs.Line.{Line, line_text}
use Rattle.text.proofs.Writing.{numbers_take}
use Rattle.form.specs.Parts.{kind_of}
use Rattle.form.specs.Writing.{rows_text, parts_text}
use Rattle.form.proofs.Single.{single_text}
use Rattle.sheet.specs.Lines.{lines, fit_line, end_line}
use Rattle.sheet.specs.SheetText.{fit_part, each_once, sheet_form, fit_rows, rows_on, sheet_text, last_parts}
use Rattle.sheet.proofs.Fits.{row_none, row_some}

-- the text from the lines ls on: of the numbers on them, of the fittings after these, and END
abbrev pub text_on : List Line → List ℕ → List ℕ
text_on ls s = parts_text (each_once ls last_parts) (rows_on ls s)

pub text_whole : (s : List ℕ) → sheet_text s ≡ text_on lines s
unfolding sheet_text sheet_form
text_whole s = refl

pub text_line : (l : Line) (ls : List Line) (s : List ℕ)
    → text_on (l ∷ ls) s ≡ line_text l s ++ text_on ls (drop (length l.limits) s)
unfolding parts_text rows_on
text_line l ls s =
    let n : ℕ = length l.limits in
    let x : line_text l (take n s) ≡ line_text l s = ap (λ (z : List ℕ). l.tag ++ z) (numbers_take l.limits s) in
    ap (λ (z : List ℕ). z ++ text_on ls (drop n s)) (single_text l (take n s) ∙ x)

-- ---- fittings

-- those on the lines from n on
abbrev pub fits_text : ℕ → List ℕ → List ℕ
fits_text n s = rows_text fit_part.kinds (fit_rows n s)

pub text_fits : (s : List ℕ) → text_on [] s ≡ fits_text 1 s ++ line_text end_line []
unfolding parts_text rows_on
text_fits s = rw (single_text end_line [], append-nil (line_text end_line []))

pub fits_none : (n : ℕ) → fits_text n [] ≡ []
unfolding rows_text fit_rows
fits_none n = refl

module _ (n w c : ℕ) (s : List ℕ) where
  pub fits_empty : eqb w 0 ≡ true → fits_text n (w ∷ c ∷ s) ≡ fits_text (suc n) s
  fits_empty e = rw (row_none n w c s e)

  pub fits_line : eqb w 0 ≡ false
      → fits_text n (w ∷ c ∷ s) ≡ line_text fit_line (n ∷ w ∷ c ∷ []) ++ fits_text (suc n) s
  unfolding rows_text kind_of
  fits_line e = rw (row_some n w c s e, rows_text)
