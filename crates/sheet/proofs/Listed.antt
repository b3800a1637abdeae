-- 01, Refusal numbers: a call on texts refuses by a number of the list, 1 to 17, and so never by 0.
use mathlib.Core.Path.{◌≡◌, refl}
use mathlib.Core.Bool.{Bool, true, false}
use mathlib.Core.List.{List}
use Prim.Native.Nat.{ℕ}
use lib.Dec.{leb}
use lib.ListN.{length}
use Rattle.ground.proofs.Booleans.{either}
use Rattle.answers.proofs.Outcomes.{OfList, text_listed}
use Rattle.form.specs.Parts.{Rows}
use Rattle.form.specs.Outcome.{Verdict, right, wrong}
use Rattle.sheet.specs.Sheet.{sheet_ok}
use Rattle.sheet.specs.SheetText.{read_sheet, sheet_text}
use Rattle.sheet.specs.EngineText.{read_engines}
use Rattle.sheet.specs.TextCalls.{read_answer, write_answer, rows_fit, engines_answer}
use Rattle.sheet.proofs.SheetText.{sheet_fault}
use Rattle.sheet.proofs.EngineText.{engines_fault}

pub read_listed : (t : List ℕ) → OfList (read_answer (read_sheet t))
read_listed t = go (read_sheet t) refl
  where
    go : (q : Verdict (List ℕ)) → read_sheet t ≡ q → OfList (read_answer q)
    go (right s) e = refl
    go (wrong number line byte) e = text_listed line byte (sheet_fault t number line byte e)

pub write_listed : (s : List ℕ) (room : ℕ) → OfList (write_answer s room)
write_listed s room = go (sheet_ok s) (leb (length (sheet_text s)) room) refl refl
  where
    go : (a b : Bool) → sheet_ok s ≡ a → leb (length (sheet_text s)) room ≡ b → OfList (write_answer s room)
    go true true e f = simp (e, f)
    go true false e f = simp (e, f)
    go false true e f = simp (e, f)
    go false false e f = simp (e, f)

pub engines_listed : (t : List ℕ) (a b : ℕ) → OfList (engines_answer (read_engines t) a b)
engines_listed t a b = go (read_engines t) refl
  where
    go : (q : Verdict Rows) → read_engines t ≡ q → OfList (engines_answer q a b)
    go (right rows) e = either OfList (rows_fit rows a b) refl refl
    go (wrong number line byte) e = text_listed line byte (engines_fault t number line byte e)
