-- How far `write_numbers` has come.
use Rattle.text.proofs.Writing.{State}
use Rattle.spelling.proofs.lines.write_numbers.Given as goal

abbrev pub invariant-loop-k : goal.invariant-loop-k
invariant-loop-k l = State l.table l.numbers l.initial.out l.out 0 l.k l.at
