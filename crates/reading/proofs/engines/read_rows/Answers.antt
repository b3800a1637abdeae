-- `read_rows` meets its contract.
use mathlib.Core.Path.{ap}
use native.Mathlib.Omega.{arith}
use Rattle.reading.specs.Rows.{row_told}
use Rattle.reading.proofs.EnginesLoop.{start, full}
use Rattle.reading.proofs.EnginesTurn.{Turn, fault, bounds, last, step}
use Rattle.reading.proofs.engines.read_rows.Goals as goal
use Rattle.reading.proofs.engines.read_rows.Goals.{After-read_row}

turn : (c : After-read_row)
    → Turn c.args.text.now c.args.powers.now c.args.weights.now c.loop-row.powers c.loop-row.weights
    c.loop-row.row c.loop-row.at c.loop-row.next (row_told c.read_row.result)
turn c = record { state = c.loop-row.invariant; few = c.loop-row-test.true; row = c.read_row.ensures }

pub loop-row-init : goal.loop-row-init
loop-row-init c = start _ _ _

pub returns-in-Err : goal.returns-in-Err
returns-in-Err c =
    rw c.after.ensures (fault (turn (goal.at.returns-in-Err c).After-read_row) (ap row_told c.in-Err.is))

pub overflow_add-next : goal.overflow_add-next
overflow_add-next c =
    omega (arith, bounds (turn (goal.at.overflow_add-next c).After-read_row) (ap row_told c.in-Ok.is))

pub returns-then-at-text : goal.returns-then-at-text
returns-then-at-text c =
    last (turn (goal.at.returns-then-at-text c).After-read_row) (ap row_told c.in-Ok.is) c.requires.0 c.requires.1
    c.if-at-text.true

pub loop-row-preserved : goal.loop-row-preserved
loop-row-preserved c =
    step (turn (goal.at.loop-row-preserved c).After-read_row) (ap row_told c.in-Ok.is) c.if-at-text.false

pub returns : goal.returns
returns c = full c.loop-row.invariant c.loop-row-test.false
