-- `power` meets its contract.
use mathlib.Core.Path.{refl, ◌∙◌}
use borrow.Author.Tests.{eq-eqb, ne_eqb}
use Rattle.capacity.proofs.Power.{no_outboard, by_formula, by_row}
use Rattle.figuring.proofs.boat.Boat.power.Goals as goal

pub returns-then-word-eq0 : goal.returns-then-word-eq0
returns-then-word-eq0 c = no_outboard _ (rw c.word.ensures at (eq-eqb _ _ c.if-word-eq0.true))

pub returns-then-p-gt-TABLE_END : goal.returns-then-p-gt-TABLE_END
returns-then-p-gt-TABLE_END c =
    c.formula_watts.ensures
    ∙ by_formula _ c.power_factor-p.ensures (rw c.word.ensures at (ne_eqb _ _ c.if-word-eq0.false))
    c.if-p-gt-TABLE_END.true

pub returns-else-p-gt-TABLE_END : goal.returns-else-p-gt-TABLE_END
returns-else-p-gt-TABLE_END c =
    c.from.ensures ∙ c.listed_watts.ensures
    ∙ by_row c.args.self.sheet.now refl (rw c.word.ensures at (ne_eqb _ _ c.if-word-eq0.false))
    (rw c.power_factor-p.ensures at c.if-p-gt-TABLE_END.false) refl
