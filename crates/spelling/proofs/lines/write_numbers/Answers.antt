-- `write_numbers` meets its contract.
use Rattle.std.proofs.Common.{◌+◌, ◌^◌, ◌<◌, arith, get_or}
use Rattle.text.specs.Number.{eleven_digits}
use Rattle.text.proofs.Laid.{laid_left}
use Rattle.text.proofs.Limits.{limit_at}
use Rattle.text.proofs.Writing.{done, step, length_entry_ten}
use Rattle.spelling.proofs.lines.write_numbers.Goals as goal
use Rattle.spelling.proofs.lines.write_numbers.Goals.{After-write_entry-at}

small : (c : After-write_entry-at) → get_or c.args.numbers.now c.loop-k.k 0 < eleven_digits
small c = omega (arith, c.type_inv.numbers c.loop-k.k)

-- what is written, with the byte after it, ends at a place that fits
fits : (c : After-write_entry-at) → c.loop-k.at + c.write_entry-at.result + 1 < 2 ^ 64
fits c =
    let l = length_entry_ten (limit_at c.args.table.now c.loop-k.k) _ (small c) in
    omega (arith, c.write_entry-at.ensures.end, c.loop-k.invariant.most, c.well_formed)

pub overflow_add-at : goal.overflow_add-at
overflow_add-at c = omega (arith, fits (goal.at.overflow_add-at c).After-write_entry-at)

pub overflow_add-at-in-loop-k : goal.overflow_add-at-in-loop-k
overflow_add-at-in-loop-k c = omega (arith, fits (goal.at.overflow_add-at-in-loop-k c).After-write_entry-at)

pub loop-k-preserved : goal.loop-k-preserved
loop-k-preserved c =
    rw c.store.ensures
    (step c.loop-k.invariant (omega arith) c.requires (small (goal.at.loop-k-preserved c).After-write_entry-at)
    c.ender_before.ensures (laid_left c.min-from.ensures c.write_entry-at.ensures))

pub returns-clause-laid : goal.returns-clause-laid
returns-clause-laid c = done c.loop-k.invariant (omega arith)
