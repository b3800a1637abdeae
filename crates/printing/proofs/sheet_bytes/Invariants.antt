-- How far `sheet_bytes` has come.
use mathlib.Core.Bool.{true}
use mathlib.Core.Path.{◌≡◌}
use Prim.Native.Nat.{◌+◌}
use lib.ListN.{drop}
use Rattle.printout.specs.Input.{sheet_bytes}
use Rattle.printing.proofs.sheet_bytes.Given as goal

abbrev pub invariant-loop-at : goal.invariant-loop-at
invariant-loop-at l = sheet_bytes true l.input ≡ l.at + sheet_bytes l.starting (drop l.at l.input)
