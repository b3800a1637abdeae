-- `lacks_tests` meets its contract.
use mathlib.Core.Path.{refl, ◌∙◌}
use borrow.Author.Tests.{le-ltb}
use Rattle.capacity.proofs.Persons.{tested_wanted, tested_unwanted}
use Rattle.figuring.proofs.boat.Boat.lacks_tests.Goals as goal

pub returns-then-gross-from : goal.returns-then-gross-from
returns-then-gross-from c = rw c.word.ensures (tested_wanted _ _ _ (rw c.from.ensures at c.if-gross-from.true) refl)

pub returns-else-gross-from : goal.returns-else-gross-from
returns-else-gross-from c =
    le-ltb _ _ c.if-gross-from.false ∙ tested_unwanted _ _ _ (rw c.from.ensures at c.if-gross-from.false)
