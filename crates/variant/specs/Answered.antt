-- 02 (xi), what reading one text or two answers: that it was done, or a refusal with its line, its byte and which text.
-- What the calls answer has no place for which text yet; until it has, this stands here by itself.
use Rattle.std.specs.Prelude.{ℕ, Bool, true, false, ◌&&◌, List, leb}
use Rattle.answers.specs.Refusals.{bad_memory, empty_line}
use Rattle.form.specs.Outcome.{Verdict, right, wrong}

-- which text a refusal is of: the only one, or of two the parent's or the variant's
abbrev pub only_text : ℕ
only_text = 0

abbrev pub parent_text : ℕ
parent_text = 1

abbrev pub variant_text : ℕ
variant_text = 2

pub data Answered : Type 0 where
  RefusedAt : ℕ → ℕ → ℕ → ℕ → Answered
  Done : Answered

abbrev pub read_answer : ℕ → Verdict (List ℕ) → Answered
read_answer text (right s) = Done
read_answer text (wrong number line byte) = RefusedAt number line byte text

abbrev pub is_refusal : Answered → Bool
is_refusal (RefusedAt number line byte text) = true
is_refusal Done = false

-- whether an answer, if it is a refusal, is by a number of the list, first to last
abbrev pub is_listed : Answered → Bool
is_listed (RefusedAt number line byte text) = leb bad_memory number && leb number empty_line
is_listed Done = true
