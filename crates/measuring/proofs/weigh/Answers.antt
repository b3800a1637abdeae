-- `weigh` meets its contract.
use Rattle.std.proofs.Common.{refl}
use Rattle.sheet.specs.Sheet.{limit_rows, limits_on}
use Rattle.measuring.proofs.weigh.Goals as goal

pub invariant_of-sheet : goal.invariant_of-sheet
unfolding limit_rows limits_on
invariant_of-sheet c = record { lent = record { table = refl; words = c.requires } }
