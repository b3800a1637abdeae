-- Two outcomes that the promise of a call of the C face allows are equal, the answer and every lent word and byte.
use mathlib.Core.Path.{◌≡◌, sym, ◌∙◌}
use mathlib.Core.List.{List}
use Prim.Native.Nat.{ℕ}
use lib.ListN.{length}
use Rattle.answers.specs.Settled.{Settled}
use Rattle.sheet.specs.SheetText.{read_sheet}
use Rattle.sheet.specs.EngineText.{read_engines}
use Rattle.sheet.specs.TextCalls.{read_answer, read_into, write_answer, write_into, engines_answer, columns_into}
use Rattle.answers.proofs.Outcomes.{one_outcome}
use Rattle.register.specs.Calls.{Step, WbChanges, WbWrites}
use Rattle.answers.specs.declared.WbAnswer.{WbAnswer}
use Rattle.answers.specs.Values.{faced}

-- of a promise of an answer and a buffer
abbrev One : {B : Type 0} → WbAnswer → B → Type 0
One {B} a x = (r q : WbAnswer) (y z : B) → Settled a x r y → Settled a x q z → (r ≡ q) × (y ≡ z)

one : {B : Type 0} (a : WbAnswer) (x : B) → One a x
one a x r q y z e f = one_outcome e f

-- every call on the register, by what it promises; `s` is its step
pub one_changed : (s : Step) (r q : WbAnswer) (y z : List ℕ) → WbChanges s r y → WbChanges s q z → (r ≡ q) × (y ≡ z)
one_changed s r q y z e f = one_outcome e f

pub one_written : (s : Step) (r q : WbAnswer) (y z : List ℕ) → WbWrites s r y → WbWrites s q z → (r ≡ q) × (y ≡ z)
one_written s r q y z e f = one_outcome e f

pub one_told : (s : Step) (r q : WbAnswer) → r ≡ faced s.answer → q ≡ faced s.answer → r ≡ q
one_told s r q e f = e ∙ sym f

-- the calls on texts
pub one_wb_read_sheet : (t s : List ℕ) → One (faced (read_answer (read_sheet t))) (read_into (read_sheet t) s)
one_wb_read_sheet t s = one (faced (read_answer (read_sheet t))) (read_into (read_sheet t) s)

pub one_wb_write_sheet : (s out : List ℕ) → One (faced (write_answer s (length out))) (write_into s out)
one_wb_write_sheet s out = one (faced (write_answer s (length out))) (write_into s out)

pub one_wb_read_engines : (t ps ws : List ℕ)
    → One (faced (engines_answer (read_engines t) (length ps) (length ws))) (columns_into (read_engines t) ps ws)
one_wb_read_engines t ps ws =
    one (faced (engines_answer (read_engines t) (length ps) (length ws))) (columns_into (read_engines t) ps ws)
