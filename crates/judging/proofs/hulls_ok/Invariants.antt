-- How far `hulls_ok` has come.
use Rattle.std.proofs.Common.{◌≡◌, true}
use Rattle.memory.specs.Formed.{each, hull_ok}
use Rattle.judging.proofs.hulls_ok.Given as goal

abbrev pub invariant-loop-number : goal.invariant-loop-number
invariant-loop-number l = each l.number (hull_ok l.mem) ≡ true
