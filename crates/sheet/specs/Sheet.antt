-- What a sheet is: 93 numbers in the order of its text, the HULL number and then the 92 words that the register holds.
-- The words of the lines HULL to SEAT come first, then weight and count of each fitting line 1..24 in turn, both 0 for
-- an empty line; tested persons 0 stands for `-`.
use Rattle.std.specs.Prelude.{ℕ, zero, suc, Bool, true, false, ◌&&◌, ◌||◌, List, [], ◌∷◌, ◌++◌, eqb, length, take, drop}
use Rattle.text.specs.declared.Limit.{Limit}
use Rattle.text.specs.Limit.{all_hold}
use Rattle.text.specs.Line.{Line}
use Rattle.sheet.specs.Lines.{lines, fittings, fit_line}

-- ---- the limits of the lines HULL to SEAT, as the code's table has them

-- the limits of the numbers on ls, one line after the other
unfoldable pub limits_on : List Line → List Limit
limits_on [] = []
limits_on (l ∷ ls) = l.limits ++ limits_on ls

unfoldable pub limit_rows : List Limit
limit_rows = limits_on lines

-- ---- within the limits

-- a fitting line that is empty has neither weight nor count
abbrev pub no_fitting : ℕ → ℕ → Bool
no_fitting weight count = eqb weight 0 && eqb count 0

-- 02 (vi): a fitting line is empty, or has the weight and the count of a FIT line
abbrev pub fit_ok : ℕ → ℕ → Bool
fit_ok weight count = no_fitting weight count || all_hold (drop 1 fit_line.limits) 0 (weight ∷ count ∷ [])

-- so many of them
unfoldable pub fits_ok : ℕ → List ℕ → Bool
fits_ok zero [] = true
fits_ok zero (w ∷ s) = false
fits_ok (suc k) [] = false
fits_ok (suc k) (w ∷ []) = false
fits_ok (suc k) (w ∷ c ∷ s) = fit_ok w c && fits_ok k s

-- the numbers on ls, each line by itself, and then the fittings
unfoldable pub ok_on : List Line → List ℕ → Bool
ok_on [] s = fits_ok fittings s
ok_on (l ∷ ls) s = all_hold l.limits 0 (take (length l.limits) s) && ok_on ls (drop (length l.limits) s)

-- whether s is a sheet within the limits
abbrev pub sheet_ok : List ℕ → Bool
sheet_ok s = ok_on lines s

-- whether s is the words of a sheet within the limits, without its HULL number
abbrev pub words_ok : List ℕ → Bool
words_ok s = ok_on (drop 1 lines) s
