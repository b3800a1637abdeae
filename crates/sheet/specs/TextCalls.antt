-- The calls on texts without the register: what each answers, and what it leaves in each lent buffer. A refusal leaves
-- them as they stood. 01, Refusal numbers: 2 and 3 of a text, with their places; 3 for a sheet outside the limits,
-- which has none; 16 comes last.
use Rattle.std.specs.Prelude.{ℕ, Bool, ◌&&◌, cond, List, leb, length}
use Rattle.ground.specs.Lists.{put_first}
use Rattle.answers.specs.Refusals.{outside_limits, no_room}
use Rattle.answers.specs.Answer.{Answer}
use Rattle.answers.specs.Answer.{Refused, RefusedAt, Done, Count}
use Rattle.form.specs.Parts.{Rows}
use Rattle.form.specs.Outcome.{Verdict, right, wrong}
use Rattle.sheet.specs.Sheet.{sheet_ok}
use Rattle.sheet.specs.SheetText.{sheet_text}
use Rattle.sheet.specs.EngineText.{powers_of, weights_of}

-- ---- read a sheet from a text

abbrev pub read_answer : Verdict (List ℕ) → Answer
read_answer (right s) = Done
read_answer (wrong number line byte) = RefusedAt number line byte

abbrev pub read_into : Verdict (List ℕ) → List ℕ → List ℕ
read_into (right s) before = s
read_into (wrong number line byte) before = before

-- ---- write a sheet to a text

abbrev pub write_answer : List ℕ → ℕ → Answer
write_answer s room =
    cond (sheet_ok s) (cond (leb (length (sheet_text s)) room) (Count (length (sheet_text s))) (Refused no_room))
    (Refused outside_limits)

abbrev pub write_into : List ℕ → List ℕ → List ℕ
write_into s before =
    cond (sheet_ok s && leb (length (sheet_text s)) (length before)) (put_first (sheet_text s) before) before

-- ---- read engine rows

-- whether there is room for the rows in both
abbrev pub rows_fit : Rows → ℕ → ℕ → Bool
rows_fit rows a b = leb (length rows) a && leb (length rows) b

abbrev pub engines_answer : Verdict Rows → ℕ → ℕ → Answer
engines_answer (right rows) a b = cond (rows_fit rows a b) (Count (length rows)) (Refused no_room)
engines_answer (wrong number line byte) a b = RefusedAt number line byte

-- the two lent slices: the rows' columns at their starts, where there is room in both
abbrev pub columns_into : Verdict Rows → List ℕ → List ℕ → List ℕ × List ℕ
columns_into (right rows) powers weights =
    cond (rows_fit rows (length powers) (length weights))
    (put_first (powers_of rows) powers, put_first (weights_of rows) weights)
    (powers, weights)
columns_into (wrong number line byte) powers weights = (powers, weights)
