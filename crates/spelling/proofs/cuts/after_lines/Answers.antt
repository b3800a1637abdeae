-- `after_lines` meets its contract.
use Rattle.std.proofs.Common.{◌≡◌, ◌+◌, ◌-◌, suc, arith}
use Rattle.text.specs.Place.{after_lines}
use Rattle.text.proofs.FirstLine.{first_fits}
use Rattle.ground.proofs.Stores.{rest_part}
use Rattle.spelling.proofs.cuts.after_lines.Goals as goal

pub slice_bounds-rest-count : goal.slice_bounds-rest-count
slice_bounds-rest-count c = rw c.first_line.ensures (first_fits c.loop.rest.now)

pub slice_bounds-rest-start : goal.slice_bounds-rest-start
slice_bounds-rest-start c = rw c.first_line.ensures (first_fits c.loop.rest.now)

pub loop-preserved : goal.loop-preserved
unfolding after_lines
loop-preserved c =
    let n : c.args.lines - c.loop.counter ≡ suc (c.args.lines - (c.loop.counter + 1)) = omega arith in
    rw (rest_part, c.first_line.ensures) (rw n at c.loop.invariant)

pub returns : goal.returns
unfolding after_lines
returns c =
    let n : c.args.lines - c.loop.counter ≡ 0 = omega arith in
    rw n at c.loop.invariant
