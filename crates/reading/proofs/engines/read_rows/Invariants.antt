-- How far `read_rows` has come.
use Rattle.reading.proofs.EnginesLoop.{State}
use Rattle.reading.proofs.engines.read_rows.Given as goal

abbrev pub invariant-loop-row : goal.invariant-loop-row
invariant-loop-row l =
    State l.text l.initial.powers l.initial.weights l.powers l.weights l.row l.at l.next
