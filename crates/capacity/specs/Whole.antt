-- Whole numbers, below zero too, as the rounding rules of 01 use them.
use Rattle.std.specs.Prelude.{ℕ, ◌+◌, ◌-◌, ◌/◌, Bool, true, false, cond, leb, ltb, ℤ, pos, negsuc}

-- z / d, down to a whole number; negsuc n is one below -n, and so is its quotient
abbrev pub floor_div : ℤ → ℕ → ℤ
floor_div (pos n) d = pos (n / d)
floor_div (negsuc n) d = negsuc (n / d)

-- the least whole number not below a / d, of d above 0
abbrev pub ceil_div : ℕ → ℕ → ℕ
ceil_div a d = (a + (d - 1)) / d

-- whether z is below n
abbrev pub is_below : ℤ → ℕ → Bool
is_below (pos m) n = ltb m n
is_below (negsuc m) n = true

-- whether y is not above z
abbrev pub is_at_most : ℤ → ℤ → Bool
is_at_most (pos m) (pos n) = leb m n
is_at_most (pos m) (negsuc n) = false
is_at_most (negsuc m) (pos n) = true
is_at_most (negsuc m) (negsuc n) = leb n m

abbrev pub least : ℤ → ℤ → ℤ
least y z = cond (is_at_most y z) y z

abbrev pub greatest : ℤ → ℤ → ℤ
greatest y z = cond (is_at_most y z) z y

-- z where it is not below zero
abbrev pub or_zero : ℤ → ℕ
or_zero (pos n) = n
or_zero (negsuc n) = 0
