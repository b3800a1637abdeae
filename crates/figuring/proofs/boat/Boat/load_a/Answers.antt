-- `load_a` meets its contract.
use mathlib.Core.Path.{ap}
use borrow.Author.Tests.{eq-eqb, ne_eqb}
use Rattle.capacity.proofs.Loads.{marked_outboard, marked_inboard}
use Rattle.figuring.specs.Positive.{if_any}
use Rattle.figuring.proofs.boat.Boat.load_a.Goals as goal

pub returns-then-word-eq1 : goal.returns-then-word-eq1
returns-then-word-eq1 c =
    cc (ap if_any (marked_outboard _ _ (rw c.word.ensures at (eq-eqb _ _ c.if-word-eq1.true))))

pub returns-else-word-eq1 : goal.returns-else-word-eq1
returns-else-word-eq1 c =
    cc (ap if_any (marked_inboard _ _ (rw c.word.ensures at (ne_eqb _ _ c.if-word-eq1.false))))
