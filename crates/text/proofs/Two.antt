-- A line of two numbers.
use mathlib.Core.Path.{◌≡◌, refl}
use mathlib.Core.Bool.{true, false, ◌&&◌}
use mathlib.Core.List.{List, [], ◌∷◌}
use Prim.Native.Nat.{ℕ, ◌≤◌}
use Rattle.text.specs.Limit.{ranging, holds, all_hold}
use Rattle.ground.proofs.Booleans.{both_hold, false_true}
use Rattle.text.proofs.Bounds.{ranging_between}

-- two numbers, from a to b and from c to d
pub record Two (a b c d : ℕ) (ns : List ℕ) : Type 0 where
  pub n : ℕ
  pub w : ℕ
  pub are : ns ≡ n ∷ w ∷ []
  pub n_low : a ≤ n
  pub n_high : n ≤ b
  pub w_low : c ≤ w
  pub w_high : w ≤ d

module _ (a b c d : ℕ) where
  two_ranging : (n w : ℕ) → holds (ranging a b) 0 n ≡ true → holds (ranging c d) n w ≡ true → Two a b c d (n ∷ w ∷ [])
  two_ranging n w h k =
      let p = ranging_between a b 0 n h in
      let q = ranging_between c d n w k in
      record {
        n = n;
        w = w;
        are = refl;
        n_low = p.least;
        n_high = p.most;
        w_low = q.least;
        w_high = q.most;
      }

  pub two_numbers : (ns : List ℕ) → all_hold (ranging a b ∷ ranging c d ∷ []) 0 ns ≡ true → Two a b c d ns
  unfolding all_hold
  two_numbers [] h = false_true h
  two_numbers (n ∷ []) h = false_true (both_hold (holds (ranging a b) 0 n) false h).1
  two_numbers (n ∷ w ∷ []) h =
      let p = both_hold (holds (ranging a b) 0 n) (holds (ranging c d) n w && true) h in
      two_ranging n w p.0 (both_hold (holds (ranging c d) n w) true p.1).0
  two_numbers (n ∷ w ∷ m ∷ ns) h =
      let p = both_hold (holds (ranging a b) 0 n) (holds (ranging c d) n w && false) h in
      false_true (both_hold (holds (ranging c d) n w) false p.1).1
