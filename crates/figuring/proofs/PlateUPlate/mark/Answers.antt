-- Plate U's `mark` meets its contract.
use mathlib.Core.Path.{sym, ◌∙◌}
use native.Mathlib.Omega.{arith}
use Rattle.std.proofs.lemmas.Result.{err_from_is_err_and}
use Rattle.capacity.proofs.PoundsWorked.{pounds_most}
use Rattle.figuring.proofs.Positive.{any_some}
use Rattle.figuring.proofs.Found.{found, lacked}
use Rattle.figuring.proofs.Marked.{unloaded_u, marks_u}
use Rattle.figuring.proofs.PlateUPlate.mark.Goals as goal

pub returns-in_err-load : goal.returns-in_err-load
returns-in_err-load c =
    let out = err_from_is_err_and c.from_residual.result c.from_residual.ensures.1 in
    let none = lacked _ c.ok_or.ensures.value c.in_err-load.was in
    rw (out.1, out.2, none.1) (unloaded_u _ _ c.load_u.ensures none.0)

-- the load fits 32 bits
pub overflow_cast-result : goal.overflow_cast-result
overflow_cast-result c =
    let load = any_some _ (sym c.load_u.ensures ∙ found _ c.ok_or.ensures.value c.in_ok-load.was) in
    omega (arith, load.0, pounds_most _ c.args.boat.within c.args.boat.weight)

pub returns : goal.returns
returns c = marks_u _ _ c.load_u.ensures (found _ c.ok_or.ensures.value c.in_ok-load.was)
