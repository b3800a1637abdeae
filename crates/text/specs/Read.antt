-- How the reading of a number with its end, of a line, and of a whole text ended: what was taken, or a refusal's number
-- with the place of the first byte at fault.
use Rattle.std.specs.Prelude.{ℕ, ◌+◌, Result, Ok, Err}
use Rattle.answers.specs.declared.TextFault.{TextFault}
use Rattle.answers.specs.Refusals.{number}
use Rattle.text.specs.declared.Taken as Code
use Rattle.text.specs.declared.Fault as Why

-- the number and how many bytes it took, with the byte that ends it
pub data EntryRead : Type 0 where
  Number : ℕ → ℕ → EntryRead
  Misread : ℕ → ℕ → EntryRead

-- how many bytes were taken
pub data LineRead : Type 0 where
  Taken : ℕ → LineRead
  Fault : ℕ → ℕ → LineRead

-- the place in the text that was reached
abbrev pub reached : LineRead → ℕ
reached (Taken k) = k
reached (Fault number at) = at

-- how a reading ended, told from a start k bytes before it
abbrev pub shift_by : ℕ → LineRead → LineRead
shift_by k (Taken n) = Taken (k + n)
shift_by k (Fault number at) = Fault number (k + at)

-- a count of what the text says, the words of a sheet or rows; or the refusal with its line and byte
pub data TextRead : Type 0 where
  Whole : ℕ → TextRead
  Wrong : ℕ → ℕ → ℕ → TextRead

-- ---- what the code answers, in these words

abbrev pub entry_told : Result Code.Taken Why.Fault → EntryRead
entry_told (Ok e) = Number e.number e.len
entry_told (Err f) = Misread (number f.refusal) f.at

abbrev pub line_told : Result ℕ Why.Fault → LineRead
line_told (Ok k) = Taken k
line_told (Err f) = Fault (number f.refusal) f.at

abbrev pub text_told : Result ℕ TextFault → TextRead
text_told (Ok n) = Whole n
text_told (Err f) = Wrong (number f.refusal) f.line f.byte
