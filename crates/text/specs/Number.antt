-- 01, The sheet, on numbers: ten digits at most, the highest first, and no `0` in front of another digit. A field that
-- is no number has a first byte at fault: the first that no number could have at its place, or the field's end where it
-- stops too early.
use Rattle.std.specs.Prelude.{ℕ, zero, suc, ◌+◌, ◌-◌, ◌*◌, ◌/◌, ◌%◌, Bool, true, false, ◌&&◌, List, [], ◌∷◌, ◌++◌, eqb, leb, ltb, Result, Ok, Err}
use Rattle.text.specs.Quoted.{digit0, digit9}

-- what a field reads as: a number, or the place of its first byte at fault
abbrev pub NumberRead : Type 0
NumberRead = Result ℕ ℕ

abbrev pub is_digit : ℕ → Bool
is_digit b = leb digit0 b && leb b digit9

-- the largest number that a further digit may follow: one more digit makes at most ten
abbrev pub nine_digits : ℕ
nine_digits = 999_999_999

-- the first number of eleven digits
abbrev pub eleven_digits : ℕ
eleven_digits = 10_000_000_000

-- i digits gave n, which is not 0; the rest follows
unfoldable pub rest_of : ℕ → ℕ → List ℕ → NumberRead
rest_of n i [] = Ok n
rest_of n i (b ∷ s) =
    elim (is_digit b && leb n nine_digits) [ true ↦ rest_of (10 * n + (b - digit0)) (suc i) s | false ↦ Err i ]

-- nothing may follow a leading 0
abbrev pub zero_alone : List ℕ → NumberRead
zero_alone [] = Ok 0
zero_alone (b ∷ s) = Err 1

unfoldable pub number_of : List ℕ → NumberRead
number_of [] = Err 0
number_of (b ∷ s) =
    elim (is_digit b) [
      | true ↦ elim (eqb b digit0) [ true ↦ zero_alone s | false ↦ rest_of (b - digit0) 1 s ]
      | false ↦ Err 0
    ]

-- the digits of n, of which there are at most k
unfoldable pub digits_in : ℕ → ℕ → List ℕ
digits_in zero n = []
digits_in (suc k) n =
    elim (ltb n 10) [ true ↦ (digit0 + n) ∷ [] | false ↦ digits_in k (n / 10) ++ ((digit0 + n % 10) ∷ []) ]

-- how n is written: below ten its one digit, else the quotient by ten and then the last digit
unfoldable pub digits_of : ℕ → List ℕ
digits_of n = digits_in (suc n) n
