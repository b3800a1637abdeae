-- How far `line_and_byte` has come.
use Rattle.std.proofs.Common.{◌≡◌}
use Rattle.text.specs.Place.{line_at, byte_at}
use Rattle.spelling.proofs.places.line_and_byte.Given as goal

abbrev pub invariant-loop-b : goal.invariant-loop-b
invariant-loop-b l = (l.line ≡ line_at l.b-items l.b-index) × (l.byte ≡ byte_at l.b-items l.b-index)
