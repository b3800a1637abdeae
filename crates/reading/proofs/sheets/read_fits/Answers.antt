-- `read_fits` meets its contract.
use mathlib.Core.Path.{sym, ap, ◌∙◌}
use lib.ListN.{length-set, get_or}
use native.Mathlib.Omega.{arith}
use Rattle.reading.specs.Rows.{row_told}
use Rattle.reading.proofs.FitsLoop.{start, full, stop}
use Rattle.reading.proofs.FitsTurn.{Turn, Room, fault, room, step}
use Rattle.reading.proofs.sheets.read_fits.Goals as goal
use Rattle.reading.proofs.sheets.read_fits.Goals.{After-read_row, In-Ok}

turn : (c : After-read_row)
    → Turn c.args.text.now c.loop.fits c.loop.counter c.loop.at c.loop.next (row_told c.read_row.result)
turn c =
    record {
      state = c.loop.invariant;
      few = c.loop-test.true;
      begun = sym c.starts.ensures ∙ c.if-not-starts.false;
      row = c.read_row.ensures;
    }

-- the row that was read
read : (c : In-Ok) → Room c.args.text.now c.loop.fits c.loop.at (get_or c.in-Ok.row.0 0 0) c.in-Ok.row.1
read c = room (turn (goal.at.In-Ok c).After-read_row) (ap row_told c.in-Ok.is)

pub loop-init : goal.loop-init
loop-init c = start _ _ c.requires

pub returns-in-Err : goal.returns-in-Err
returns-in-Err c =
    rw c.after.ensures (fault (turn (goal.at.returns-in-Err c).After-read_row) (ap row_told c.in-Err.is))

pub overflow_sub-word : goal.overflow_sub-word
overflow_sub-word c = omega (arith, read (goal.at.overflow_sub-word c).In-Ok)

pub bounds-fits-word : goal.bounds-fits-word
bounds-fits-word c = omega (arith, read (goal.at.bounds-fits-word c).In-Ok)

pub bounds-fits-word-in-loop : goal.bounds-fits-word-in-loop
bounds-fits-word-in-loop c = simp length-set (omega (arith, read (goal.at.bounds-fits-word-in-loop c).In-Ok))

pub overflow_add-next : goal.overflow_add-next
overflow_add-next c = omega (arith, read (goal.at.overflow_add-next c).In-Ok)

pub loop-preserved : goal.loop-preserved
loop-preserved c = step (turn (goal.at.loop-preserved c).After-read_row) (ap row_told c.in-Ok.is)

pub returns-then-not-starts : goal.returns-then-not-starts
returns-then-not-starts c = stop c.loop.invariant (sym c.starts.ensures ∙ c.if-not-starts.true)

pub returns-after-loop : goal.returns-after-loop
returns-after-loop c = full c.loop.invariant c.loop-test.false
