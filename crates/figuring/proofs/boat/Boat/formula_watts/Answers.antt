-- `formula_watts` meets its contract.
use mathlib.Core.Path.{sym, ◌∙◌}
use borrow.Author.Tests.{eq-eqb, ne_eqb}
use Rattle.ground.proofs.Booleans.{both_hold}
use Rattle.capacity.proofs.Power.{by_remote, by_flat, by_chine}
use Rattle.figuring.proofs.boat.Boat.formula_watts.Goals as goal

pub returns-then-is_remote : goal.returns-then-is_remote
returns-then-is_remote c =
    let h = both_hold _ _ (sym c.is_remote.ensures ∙ c.if-is_remote.true) in
    c.raised_watts.ensures ∙ by_remote _ c.requires.factor h.0 h.1

pub returns-then-word-eq1 : goal.returns-then-word-eq1
returns-then-word-eq1 c =
    c.raised_watts-then-word-eq1.ensures
    ∙ by_flat _ c.requires.factor (sym c.is_remote.ensures ∙ c.if-is_remote.false)
    (rw c.word.ensures at (eq-eqb _ _ c.if-word-eq1.true))

pub returns-else-word-eq1 : goal.returns-else-word-eq1
returns-else-word-eq1 c =
    c.raised_watts-else-word-eq1.ensures
    ∙ by_chine _ c.requires.factor (sym c.is_remote.ensures ∙ c.if-is_remote.false)
    (rw c.word.ensures at (ne_eqb _ _ c.if-word-eq1.false))
