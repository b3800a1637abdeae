-- How far `rows_rise` has come.
use mathlib.Core.Path.{◌≡◌}
use lib.ListN.{length, drop}
use Rattle.capacity.specs.PlateC.{rising}
use Rattle.figuring.proofs.engines.rows_rise.Given as goal

abbrev pub invariant-loop-power : goal.invariant-loop-power
invariant-loop-power l =
    rising 1 l.powers l.weights ≡ rising l.next (drop (length l.yielded) l.powers) (drop (length l.yielded) l.weights)
