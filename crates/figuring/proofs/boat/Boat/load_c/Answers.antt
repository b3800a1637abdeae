-- `load_c` meets its contract.
use mathlib.Core.Path.{ap, ◌∙◌}
use native.Mathlib.Omega.{arith}
use Rattle.capacity.proofs.Loads.{marked_high, marked_low}
use Rattle.capacity.proofs.Most.{lost_most}
use Rattle.figuring.specs.Positive.{if_any}
use Rattle.figuring.proofs.boat.Boat.load_c.Goals as goal

pub overflow_mul-loss : goal.overflow_mul-loss
overflow_mul-loss c = omega (arith, lost_most _ c.args.self.within)

pub returns-then-word-gt-LOW_POWER : goal.returns-then-word-gt-LOW_POWER
returns-then-word-gt-LOW_POWER c =
    cc (ap if_any (marked_high _ _ (rw c.word.ensures at c.if-word-gt-LOW_POWER.true)))

pub returns-else-word-gt-LOW_POWER : goal.returns-else-word-gt-LOW_POWER
returns-else-word-gt-LOW_POWER c =
    c.whole_part-else-word-gt-LOW_POWER.ensures
    ∙ rw (c.gain-gain.ensures, c.loss-loss.ensures, c.from.ensures, c.carried.ensures)
    (ap if_any
    (marked_low c.args.self.weight c.args.self.sheet.now (rw c.word.ensures at c.if-word-gt-LOW_POWER.false)))
