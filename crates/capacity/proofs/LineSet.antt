-- M when a fitting line is set: what the line weighs now is added, and what it weighed is taken off.
use mathlib.Core.Path.{◌≡◌, ◌∙◌}
use mathlib.Core.List.{List, [], ◌∷◌}
use Prim.Native.Nat.{ℕ, zero, suc, ◌+◌, ◌*◌, ◌≤◌, ◌<◌}
use native.Mathlib.Omega.{arith}
use lib.ListN.{length, set, length-drop}
use lib.Seq.{sets, get_or-set_other}
use Rattle.ground.proofs.Stores.{drop_sets}
use Rattle.sheet.specs.Lines.{fittings}
use Rattle.sheet.specs.Places.{bare_at, fittings_at, fitting_word, sheet_words}
use Rattle.capacity.specs.Words.{bare, fittings_of}
use Rattle.capacity.specs.Weights.{line_weight, added_up, boat_m}
use Rattle.capacity.proofs.Weights.{pieces, line_pieces}

module _ (w c : ℕ) where
  -- of n lines the one at place k
  sum_set : (n k : ℕ) (s : List ℕ)
      → k < n
      → length s ≡ 2 * n
      → added_up (sets s (2 * k) (w ∷ c ∷ [])) + pieces s k ≡ added_up s + w * c
  unfolding added_up
  sum_set zero k s l n = absurd (omega arith)
  sum_set (suc j) k [] l n = absurd (omega arith)
  sum_set (suc j) k (x ∷ []) l n = absurd (omega arith)
  sum_set (suc j) zero (x ∷ y ∷ s) l n = omega arith
  sum_set (suc j) (suc k) (x ∷ y ∷ s) l n =
      let e : 2 * suc k ≡ suc (suc (2 * k)) = omega arith in
      let f : 2 * suc k + 1 ≡ suc (suc (2 * k + 1)) = omega arith in
      rw (f, e) (omega (arith, sum_set j k s (omega arith) (omega arith)))

  pub boat_set : (s : List ℕ) (line : ℕ)
      → length s ≡ sheet_words
      → 1 ≤ line
      → line ≤ fittings
      → boat_m (sets s (fitting_word line) (w ∷ c ∷ [])) + line_weight s line ≡ boat_m s + w * c
  unfolding boat_m
  boat_set s zero n a b = absurd (omega arith)
  boat_set s (suc k) n a b =
      let at : ℕ = fittings_at + 2 * k in
      let xs : List ℕ = w ∷ c ∷ [] in
      let e : fitting_word (suc k) ≡ at = omega arith in
      let same : bare (sets s at xs) ≡ bare s =
      get_or-set_other (set s at w) (suc at) bare_at c 0 (λ q. omega arith)
      ∙ get_or-set_other s at bare_at w 0 (λ q. omega arith) in
      let sum = sum_set fittings k (fittings_of s) (omega arith) (omega (arith, length-drop fittings_at s)) in
      let fits = drop_sets s fittings_at (2 * k) xs in
      rw (← line_pieces s k, e, same, fits) (omega (arith, sum))

-- so no line weighs more than the boat
pub line_light : (s : List ℕ) (line : ℕ) → length s ≡ sheet_words → 1 ≤ line → line ≤ fittings
    → line_weight s line ≤ boat_m s
line_light s line n a b = omega (arith, boat_set 0 0 s line n a b)
