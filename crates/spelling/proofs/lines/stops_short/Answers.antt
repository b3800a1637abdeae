-- `stops_short` meets its contract.
use mathlib.Core.Path.{ap}
use lib.ListN.{length}
use Rattle.text.proofs.Field.{field_most}
use native.Mathlib.Omega.{arith}
use Rattle.spelling.proofs.lines.stops_short.Goals as goal

pub slice_bounds-starts-count : goal.slice_bounds-starts-count
slice_bounds-starts-count c =
    omega (arith, field_most c.args.text.now, ap length c.find_field.ensures)

pub slice_bounds-starts-start : goal.slice_bounds-starts-start
slice_bounds-starts-start c =
    omega (arith, field_most c.args.text.now, ap length c.find_field.ensures)
