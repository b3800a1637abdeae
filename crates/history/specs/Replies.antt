-- 01, Calls on the register: what a call replies, and the memory that it leaves to the next. `step` of crates/register
-- says both, and each call's own promise cites it.
use Rattle.std.specs.Prelude.{ℕ, Bool, not, List, []}
use Rattle.answers.specs.Answer.{Answer}
use Rattle.answers.specs.Values.{is_refusal}
use Rattle.register.specs.Calls.{Call, step}

-- an answer, and the lent output after the call; a call without one has none
pub record Reply : Type 0 where
  pub answer : Answer
  pub output : List ℕ

abbrev pub says : Answer → Reply
says a = record { answer = a; output = [] }

-- whether a call was accepted
abbrev pub accepted : Reply → Bool
accepted r = not (is_refusal r.answer)

unfoldable pub reply : List ℕ → Call → Reply
reply m c = record { answer = (step m c).answer; output = (step m c).output }

unfoldable pub next : List ℕ → Call → List ℕ
next m c = (step m c).memory
