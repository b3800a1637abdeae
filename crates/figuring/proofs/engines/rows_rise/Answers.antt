-- `rows_rise` meets its contract.
use mathlib.Core.Path.{sym, ◌∙◌}
use lib.ListN.{length-append}
use Rattle.std.proofs.lemmas.Slice.Zip.{zip_turn, zip_end}
use Rattle.capacity.proofs.Engines.{rise_more, rise_fails, rise_done}
use native.Mathlib.Omega.{arith}
use Rattle.figuring.proofs.engines.rows_rise.Goals as goal

pub loop-power-preserved : goal.loop-power-preserved
loop-power-preserved c =
    let t =
    zip_turn c.args.powers.now c.args.weights.now _ c.into_iter-power-iterator.result _ c.next.new.self _ (cc) (cc)
    c.loop-power.yielded_by _ c.in-Some.is c.next.ensures.steps in
    rw (t.2 0, length-append)
    (c.loop-power.invariant
    ∙ rise_more _ _ _ _ t.0 t.1 (rw (t.2 0, t.3 0) at c.row_fits.ensures) c.if-not-row_fits.false)

pub returns-then-not-row_fits : goal.returns-then-not-row_fits
returns-then-not-row_fits c =
    let t =
    zip_turn c.args.powers.now c.args.weights.now _ c.into_iter-power-iterator.result _ c.next.new.self _ (cc) (cc)
    c.loop-power.yielded_by _ c.in-Some.is c.next.ensures.steps in
    sym (c.loop-power.invariant
    ∙ rise_fails _ _ _ _ t.0 t.1 (rw (t.2 0, t.3 0) at c.row_fits.ensures) c.if-not-row_fits.true)

pub returns : goal.returns
returns c =
    let n =
    zip_end c.args.powers.now c.args.weights.now _ c.into_iter-power-iterator.result _ c.next.new.self _ (cc) (cc)
    c.loop-power.yielded_by c.in-None.is c.next.ensures.steps in
    sym (c.loop-power.invariant ∙ rise_done c.args.powers.now c.args.weights.now _ _ (omega arith) (omega arith))
