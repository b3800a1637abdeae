-- `lacks_power` meets its contract.
use mathlib.Core.Path.{sym, ◌∙◌}
use borrow.Author.Tests.{eq-eqb, eqb-true}
use Rattle.capacity.proofs.Power.{first_row}
use Rattle.figuring.proofs.boat.Boat.lacks_power.Goals as goal
use Rattle.figuring.proofs.boat.Boat.lacks_power.Goals.{then-word-eq1, else-word-eq1}

pub returns-then-word-eq1-2 : goal.returns-then-word-eq1-2
returns-then-word-eq1-2 c =
    elim c.if-word-eq1.branch [
      | then-word-eq1 w ↦
          first_row c.args.self.sheet.now c.power_factor.ensures (rw c.word.ensures at (eq-eqb _ _ w.if-word-eq1.true))
          (rw w.word-then-word-eq1.ensures at (sym w.value-is ∙ c.if-word-eq1-2.true))
      | else-word-eq1 w ↦ absurd (w.if-word-eq1.false (eqb-true _ _ (sym w.value-is ∙ c.if-word-eq1-2.true)))
    ]
