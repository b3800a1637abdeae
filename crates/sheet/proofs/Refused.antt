-- Which refusal of a call on texts comes first, and which has a place; and a refused call leaves every lent byte as it
-- stood.
use mathlib.Core.Path.{◌≡◌, refl}
use mathlib.Core.Bool.{Bool, true, false, ◌&&◌, cond}
use mathlib.Core.List.{List}
use Prim.Native.Nat.{ℕ}
use lib.Dec.{leb}
use lib.ListN.{length}
use Rattle.ground.specs.Lists.{put_first}
use Rattle.ground.proofs.Booleans.{either, false_true}
use Rattle.answers.specs.Values.{is_refusal}
use Rattle.answers.specs.Refusals.{outside_limits, no_room}
use Rattle.answers.specs.Answer.{Refused, RefusedAt, Done, Count}
use Rattle.answers.proofs.Outcomes.{Unplaced}
use Rattle.form.specs.Parts.{Rows}
use Rattle.form.specs.Outcome.{Verdict, right, wrong}
use Rattle.sheet.specs.Sheet.{sheet_ok}
use Rattle.sheet.specs.SheetText.{read_sheet, sheet_text}
use Rattle.sheet.specs.EngineText.{read_engines}
use Rattle.sheet.specs.TextCalls.{read_answer, read_into, write_answer, write_into}
use Rattle.sheet.specs.TextCalls.{rows_fit, engines_answer, columns_into}

-- ---- which refusal comes first

-- a sheet outside the limits is told before a lent output that is too short, and a text at fault before slices that are
pub outside_first : (s : List ℕ) (room : ℕ) → sheet_ok s ≡ false → write_answer s room ≡ Refused outside_limits
outside_first s room e = rw e refl

pub fault_first : (t : List ℕ) (a b number line byte : ℕ) → read_engines t ≡ wrong number line byte
    → engines_answer (read_engines t) a b ≡ RefusedAt number line byte
fault_first t a b number line byte e = rw e refl

-- ---- a text's refusal has the place that the reader found, whichever it is; a sheet's, which is no text, has none

pub read_told : (t : List ℕ) (number line byte : ℕ) → read_sheet t ≡ wrong number line byte
    → read_answer (read_sheet t) ≡ RefusedAt number line byte
read_told t number line byte e = rw e refl

pub read_done : (t s : List ℕ) → read_sheet t ≡ right s → read_answer (read_sheet t) ≡ Done
read_done t s e = rw e refl

pub write_unplaced : (s : List ℕ) (room : ℕ) → Unplaced (write_answer s room)
write_unplaced s room =
    either Unplaced (sheet_ok s) (either Unplaced (leb (length (sheet_text s)) room) refl refl) refl

-- ---- a refused call leaves what was lent

pub read_refused : (t before : List ℕ) → is_refusal (read_answer (read_sheet t)) ≡ true
    → read_into (read_sheet t) before ≡ before
read_refused t before = go (read_sheet t)
  where
    go : (q : Verdict (List ℕ)) → is_refusal (read_answer q) ≡ true → read_into q before ≡ before
    go (right s) e = false_true e
    go (wrong number line byte) e = refl

pub write_refused : (s out : List ℕ) → is_refusal (write_answer s (length out)) ≡ true → write_into s out ≡ out
write_refused s out = go (sheet_ok s) (leb (length (sheet_text s)) (length out))
  where
    go : (a b : Bool)
        → is_refusal (cond a (cond b (Count (length (sheet_text s))) (Refused no_room)) (Refused outside_limits)) ≡ true
        → cond (a && b) (put_first (sheet_text s) out) out ≡ out
    go true true e = false_true e
    go true false e = refl
    go false b e = refl

pub engines_refused : (t powers weights : List ℕ)
    → is_refusal (engines_answer (read_engines t) (length powers) (length weights)) ≡ true
    → columns_into (read_engines t) powers weights ≡ (powers, weights)
engines_refused t powers weights = go (read_engines t)
  where
    fits : (rows : Rows) (x : List ℕ × List ℕ) (b : Bool)
        → is_refusal (cond b (Count (length rows)) (Refused no_room)) ≡ true
        → cond b x (powers, weights) ≡ (powers, weights)
    fits rows x true e = false_true e
    fits rows x false e = refl

    go : (q : Verdict Rows) → is_refusal (engines_answer q (length powers) (length weights)) ≡ true
        → columns_into q powers weights ≡ (powers, weights)
    go (right rows) e =
        fits rows _ (rows_fit rows (length powers) (length weights)) e
    go (wrong number line byte) e = refl
