-- 01, Volume and weights: F, all fittings together, and M, the bare boat with them. 02 (vi): a fitting line weighs the
-- weight of one piece times how many there are.
use Rattle.std.specs.Prelude.{ℕ, ◌+◌, ◌*◌, Bool, ◌&&◌, List, [], ◌∷◌, eqb, get_or}
use Rattle.sheet.specs.Places.{fitting_word}
use Rattle.sheet.specs.Sheet.{words_ok}
use Rattle.capacity.specs.Words.{bare, fittings_of}

-- what the pieces on a fitting line weigh
abbrev pub line_weight : List ℕ → ℕ → ℕ
line_weight s line = get_or s (fitting_word line) 0 * get_or s (fitting_word line + 1) 0

-- of weight and count in turn
unfoldable pub added_up : List ℕ → ℕ
added_up [] = 0
added_up (w ∷ []) = 0
added_up (w ∷ c ∷ s) = w * c + added_up s

unfoldable pub boat_m : List ℕ → ℕ
boat_m s = bare s + added_up (fittings_of s)

-- 02 (vii): a weight that is kept beside a sheet is right where the sheet is within the limits and M is that weight
abbrev pub weighed_ok : ℕ → List ℕ → Bool
weighed_ok weight s = words_ok s && eqb weight (boat_m s)
