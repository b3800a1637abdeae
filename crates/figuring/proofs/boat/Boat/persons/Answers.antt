-- `persons` meets its contract.
use mathlib.Core.Path.{◌∙◌}
use native.Mathlib.Omega.{arith}
use Rattle.figuring.proofs.Seats.{seats_none, seats_untested, seats_tested}
use Rattle.figuring.proofs.boat.Boat.persons.Goals as goal

pub returns-in_err-by_load : goal.returns-in_err-by_load
returns-in_err-by_load c =
    c.from_residual.ensures
    ∙ seats_none _ c.args.self.within _ (rw c.from.ensures at c.whole_part.ensures) c.in_err-by_load.was

pub returns-in-0 : goal.returns-in-0
returns-in-0 c =
    rw (c.min-seated.ensures, c.wide.ensures.0)
    (seats_untested _ c.args.self.within _ (rw c.from.ensures at c.whole_part.ensures) c.in_ok-by_load.was
    (rw c.wide-2.ensures.0 at c.in-0.is))

pub returns-in_default : goal.returns-in_default
returns-in_default c =
    rw (c.min.ensures, c.min-seated.ensures, c.wide.ensures.0, c.wide-2.ensures.0)
    (seats_tested _ c.args.self.within _ (rw c.from.ensures at c.whole_part.ensures) c.in_ok-by_load.was
    (λ z. omega arith))
