-- What a caller knows of the weight of a sheet that is within the limits.
use Rattle.std.proofs.Common.{◌≡◌, ℕ, true, cond, List, Option, Some, None, IsSome, rules}
use Rattle.sheet.specs.Sheet.{words_ok}
use Rattle.capacity.specs.Weights.{boat_m}

module _ (s : List ℕ) {read : Option ℕ} (e : read ≡ cond (words_ok s) (Some (boat_m s)) None)
    (ok : words_ok s ≡ true) where
  pub weight_there : IsSome read
  weight_there = rw (e, ok) (search rules)

  pub weight_right : {w : ℕ} → read ≡ Some w → w ≡ boat_m s
  weight_right f = let g = rw ok at e in cc
