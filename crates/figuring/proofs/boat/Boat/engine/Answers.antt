-- `engine` meets its contract.
use mathlib.Core.Path.{sym, ◌∙◌}
use Rattle.figuring.proofs.RowFound.{unweighed, unreached, weighed, row_within}
use Rattle.figuring.proofs.boat.Boat.engine.Goals as goal

pub returns-then-not-wants_row : goal.returns-then-not-wants_row
returns-then-not-wants_row c = unweighed _ _ _ (sym c.wants_row.ensures ∙ c.if-not-wants_row.true)

pub returns-in_err-row : goal.returns-in_err-row
returns-in_err-row c =
    c.from_residual.ensures
    ∙ unreached _ _ _ (sym c.wants_row.ensures ∙ c.if-not-wants_row.false) (rw c.word.ensures at c.row_for.ensures)
    c.in_err-row.was

pub bounds-weights-row : goal.bounds-weights-row
bounds-weights-row c =
    row_within c.args.self.sheet.now _ _ (sym c.wants_row.ensures ∙ c.if-not-wants_row.false)
    (rw c.word.ensures at c.row_for.ensures) c.in_ok-row.was c.requires

pub returns : goal.returns
returns c =
    weighed _ _ _ (sym c.wants_row.ensures ∙ c.if-not-wants_row.false) (rw c.word.ensures at c.row_for.ensures)
    c.in_ok-row.was
