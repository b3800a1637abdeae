-- The code's table of limits is that of the lines HULL to SEAT.
use mathlib.Core.Path.{◌≡◌, refl, ap}
use mathlib.Core.List.{List}
use Prim.Native.Nat.{◌+◌}
use lib.ListN.{length}
use Rattle.text.specs.declared.Limit.{Limit}
use Rattle.sheet.specs.Lines.{lines}
use Rattle.sheet.specs.Sheet.{limit_rows, limits_on}
use Rattle.sheet.specs.Places.{fittings_at}

table_limits : limit_rows ≡ limits_on lines
unfolding limit_rows limits_on
table_limits = refl

pub rows_long : {rows : List Limit} → rows ≡ limit_rows → length rows ≡ 1 + fittings_at
unfolding limit_rows limits_on
rows_long e = ap length e
