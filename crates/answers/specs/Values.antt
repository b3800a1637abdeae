-- 01, Where each language form belongs, on answers that are enums: this paper's number and values for each case, as the
-- promises cite them. A refusal is its number and no figures; 02 (v): that of a text has its line and its byte. An
-- accepted call has refusal 0 and its figures. Figures that are not used are 0.
use Rattle.std.specs.Prelude.{Bool, true, false, ◌&&◌, leb, Result, Ok, Err}
use Rattle.answers.specs.declared.Figures.{Figures}
use Rattle.answers.specs.declared.Figures.TheVariants as Code
use Rattle.answers.specs.declared.Refused as Why
use Rattle.answers.specs.declared.Refused.TheVariants as By
use Rattle.answers.specs.declared.WbAnswer.{WbAnswer}
use Rattle.answers.specs.Answer.{Answer, Refused, RefusedAt, Done, Count, Plate}
use Rattle.answers.specs.Refusals.{number, bad_memory, empty_line}

-- what the code answers, in 01's numbers
abbrev pub in_numbers : Result Figures Why.Refused → Answer
in_numbers (Ok Code.Done) = Done
in_numbers (Ok (Code.Count n)) = Count n
in_numbers (Ok (Code.Plate load figure)) = Plate load figure
in_numbers (Err (By.Plain r)) = Refused (number r)
in_numbers (Err (By.InText f)) = RefusedAt (number f.refusal) f.line f.byte

abbrev pub faced : Answer → WbAnswer
faced (Refused number) = record { refusal = number; first = 0; second = 0; third = 0 }
faced (RefusedAt number line byte) = record { refusal = number; first = line; second = byte; third = 0 }
faced Done = record { refusal = 0; first = 0; second = 0; third = 0 }
faced (Count n) = record { refusal = 0; first = n; second = 0; third = 0 }
faced (Plate load figure) = record { refusal = 0; first = load; second = figure; third = 0 }

abbrev pub is_refusal : Answer → Bool
is_refusal (Refused n) = true
is_refusal (RefusedAt n line byte) = true
is_refusal Done = false
is_refusal (Count n) = false
is_refusal (Plate a b) = false

-- whether an answer, if it is a refusal, is by a number of the list, first to last
abbrev pub is_listed : Answer → Bool
is_listed (Refused number) = leb bad_memory number && leb number empty_line
is_listed (RefusedAt number line byte) = leb bad_memory number && leb number empty_line
is_listed Done = true
is_listed (Count n) = true
is_listed (Plate a b) = true

-- whether it has a place, which only a text's refusal has
abbrev pub is_placed : Answer → Bool
is_placed (Refused n) = false
is_placed (RefusedAt n line byte) = true
is_placed Done = false
is_placed (Count n) = false
is_placed (Plate a b) = false
