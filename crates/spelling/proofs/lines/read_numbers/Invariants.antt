-- How far `read_numbers` has come.
use Rattle.text.proofs.Reading.{State}
use Rattle.spelling.proofs.lines.read_numbers.Given as goal

abbrev pub invariant-loop-k : goal.invariant-loop-k
invariant-loop-k l = State l.table l.text l.initial.out l.out l.k l.last l.at
