-- Plate A's `mark` meets its contract.
use mathlib.Core.Path.{sym, ◌∙◌}
use native.Mathlib.Omega.{arith}
use Rattle.std.proofs.lemmas.Result.{err_from_is_err_and}
use Rattle.capacity.proofs.Most.{marked_most}
use Rattle.capacity.proofs.Power.{power_most}
use Rattle.figuring.proofs.Positive.{any_some}
use Rattle.figuring.proofs.Found.{found, lacked}
use Rattle.figuring.proofs.Marked.{unloaded_a, unpowered_a, marks_a}
use Rattle.figuring.proofs.PlateAPlate.mark.Goals as goal

pub returns-in_err-load : goal.returns-in_err-load
returns-in_err-load c =
    let out = err_from_is_err_and c.from_residual.result c.from_residual.ensures.1 in
    let none = lacked _ c.ok_or.ensures.value c.in_err-load.was in
    rw (out.1, out.2, none.1) (unloaded_a _ _ c.load_a.ensures none.0)

pub returns-then-lacks_power : goal.returns-then-lacks_power
returns-then-lacks_power c =
    let load = found _ c.ok_or.ensures.value c.in_ok-load.was in
    unpowered_a _ _ c.load_a.ensures load c.lacks_power.ensures c.if-lacks_power.true

-- the load fits 32 bits, and so does the power
pub overflow_cast-result : goal.overflow_cast-result
overflow_cast-result c =
    let load = any_some _ (sym c.load_a.ensures ∙ found _ c.ok_or.ensures.value c.in_ok-load.was) in
    omega (arith, load.0, marked_most _ c.args.boat.within c.args.boat.weight)

pub overflow_cast-result-2 : goal.overflow_cast-result-2
overflow_cast-result-2 c = omega (arith, c.power.ensures, power_most _ c.args.boat.within)

pub returns : goal.returns
returns c =
    let load = found _ c.ok_or.ensures.value c.in_ok-load.was in
    marks_a _ _ c.load_a.ensures load c.lacks_power.ensures c.if-lacks_power.false c.power.ensures
