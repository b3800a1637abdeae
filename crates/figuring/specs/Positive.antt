-- Whole numbers, below zero too, of which a plate marks none that is below 1.
use Rattle.std.specs.Prelude.{ℕ, cond, leb, ℤ, Option, Some, None}
use Rattle.capacity.specs.Whole.{or_zero}

-- n where it is at least 1
abbrev pub if_any : ℕ → Option ℕ
if_any n = cond (leb 1 n) (Some n) None

-- z where it is at least 1
abbrev pub positive : ℤ → Option ℕ
positive z = if_any (or_zero z)
