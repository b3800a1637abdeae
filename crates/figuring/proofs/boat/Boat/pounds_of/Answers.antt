-- `pounds_of` meets its contract.
use mathlib.Core.Path.{ap, ◌∙◌}
use Prim.Native.Nat.{◌*◌}
use native.Mathlib.Nat.{lt_of_le_of_lt}
use lib.Dec.{lit<}
use Rattle.capacity.specs.PlateU.{figure}
use Rattle.capacity.proofs.Most.{gain_most, loss_most}
use Rattle.capacity.proofs.PoundsWorked.{fifths, pounds_are, gain_fine, loss_fine}
use Rattle.figuring.specs.Positive.{if_any}
use Rattle.figuring.proofs.boat.Boat.pounds_of.Goals as goal

pub overflow_mul-fine-2 : goal.overflow_mul-fine-2
overflow_mul-fine-2 c =
    record {
      fits = lt_of_le_of_lt {m = 3 * fifths * gain_most}
          (rw c.requires.gains (gain_fine _ c.args.self.within fifths c.requires.times_most)) (lit< tt);
    }

pub overflow_mul-fine-3 : goal.overflow_mul-fine-3
overflow_mul-fine-3 c =
    record {
      fits = lt_of_le_of_lt {m = 3 * fifths * loss_most}
          (rw c.loss.ensures (loss_fine _ c.args.self.within c.requires.times_most c.requires.grams_most)) (lit< tt);
    }

pub returns : goal.returns
returns c =
    c.whole_part.ensures
    ∙ rw (c.requires.gains, c.loss.ensures)
    (ap if_any (pounds_are c.args.self.sheet.now (figure c.args.less c.args.times c.args.divisor)))
