-- `sheet_bytes` meets its contract.
use mathlib.Core.Path.{refl}
use Rattle.printout.proofs.Input.{bytes_done, bytes_inside, bytes_other, bytes_end}
use Rattle.printing.proofs.Laying.{starts_agreed}
use native.Mathlib.Omega.{arith}
use Rattle.printing.proofs.sheet_bytes.Goals as goal
use Rattle.printing.proofs.sheet_bytes.Goals.{else-starting-via-then-starting+else-starts_with}
use Rattle.printing.proofs.sheet_bytes.Goals.{else-starting-via-else-starting}

pub returns-then-starts_with-clause-counted : goal.returns-then-starts_with-clause-counted
returns-then-starts_with-clause-counted c =
    let agrees = starts_agreed _ _ c.starts_with.ensures.value in
    let end = bytes_end c.loop-at.starting c.args.input.now c.loop-at.at c.loop-at-test.true refl c.if-starting.true
    (agrees.0 c.if-starts_with.true) in
    omega (arith, c.loop-at.invariant)

pub loop-at-preserved : goal.loop-at-preserved
loop-at-preserved c =
    let text = c.args.input.now in
    let at = c.loop-at.at in
    let inside = c.loop-at-test.true in
    elim c.else-starting.branch [
      | else-starting-via-then-starting+else-starts_with w ↦
          let agrees = starts_agreed _ _ w.starts_with.ensures.value in
          let other = bytes_other c.loop-at.starting text at inside refl (agrees.1 w.if-starts_with.false) in
          omega (arith, c.loop-at.invariant)
      | else-starting-via-else-starting w ↦
          let other = bytes_inside c.loop-at.starting text at inside w.if-starting.false in
          omega (arith, c.loop-at.invariant)
    ]

pub returns-clause-counted : goal.returns-clause-counted
returns-clause-counted c =
    let done = bytes_done c.loop-at.starting c.args.input.now c.loop-at.at c.loop-at-test.false in
    omega (arith, c.loop-at.invariant)
