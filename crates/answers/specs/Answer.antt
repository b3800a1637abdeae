-- 01, Where each language form belongs, on answers that are enums: what a call may answer, as this paper has it. A refusal
-- is its number; 02 (v): that of a text has its line and its byte. An accepted call was done, or has a count (of hulls,
-- edits, bytes, rows or pounds), or a plate's load and its other figure.
use Rattle.std.specs.Prelude.{ℕ}

pub data Answer : Type 0 where
  Refused : ℕ → Answer
  RefusedAt : ℕ → ℕ → ℕ → Answer
  Done : Answer
  Count : ℕ → Answer
  Plate : ℕ → ℕ → Answer
