-- The first row that reaches, by its place where one does, and the engine's weight by it.
use mathlib.Core.Path.{◌≡◌, refl, sym, ◌∙◌}
use mathlib.Core.Bool.{Bool, true, false, not, cond}
use mathlib.Core.List.{List, [], ◌∷◌}
use Prim.Native.Nat.{ℕ, suc, ◌+◌, ◌≤◌, ◌<◌}
use native.Mathlib.Omega.{arith}
use borrow.Author.Tests.{eqb-true, ltb-true, ltb-false, le-leb, lt-leb}
use lib.Dec.{eqb, leb, ltb}
use lib.ListN.{length, get_or}
use Rattle.std.proofs.Common.{Option, Some, None}
use Rattle.std.specs.List.{position, position_or_len}
use Rattle.ground.proofs.Booleans.{both_hold}
use Rattle.capacity.specs.Words.{declared}
use Rattle.capacity.specs.PlateC.{rows_right, wants_row, row_for, lacks_row, engine_weight}
use Rattle.capacity.proofs.Engines.{row_unwanted, row_wanted, weight_unwanted, weight_wanted}

row_is : (power : ℕ) (ps : List ℕ) → position_or_len (λ (most : ℕ). leb power most) ps ≡ row_for power ps
unfolding row_for
row_is power [] = refl
row_is power (p ∷ ps) = go (leb power p) (row_is power ps)
  where
    go : {m n : ℕ} (t : Bool) → m ≡ n → cond (not t) (1 + m) 0 ≡ elim t [ true ↦ 0 | false ↦ suc n ]
    go true e = refl
    go false e = omega arith

module _ {n len : ℕ} where
  missed : cond (ltb n len) (Some n) None ≡ None → len ≤ n
  missed = go (ltb n len) refl
    where
      go : (t : Bool) → ltb n len ≡ t → cond t (Some n) None ≡ None → len ≤ n
      go true e f = cc
      go false e f = ltb-false n len e

  reached : {row : ℕ} → cond (ltb n len) (Some n) None ≡ Some row → (row ≡ n) × (n < len)
  reached {row} = go (ltb n len) refl
    where
      go : (t : Bool) → ltb n len ≡ t → cond t (Some n) None ≡ Some row → (row ≡ n) × (n < len)
      go true e f = (cc, ltb-true n len e)
      go false e f = cc

module _ (s ps ws : List ℕ) where
  pub unweighed : wants_row s ≡ false → Some 0 ≡ cond (lacks_row s ps) None (Some (engine_weight s ps ws))
  unweighed e = rw (← row_unwanted s ps e, ← weight_unwanted s ps ws e) refl

  module _ (w : wants_row s ≡ true) {place : Option ℕ}
      (e : place ≡ position (λ (most : ℕ). leb (declared s) most) ps) where
    pub unreached : place ≡ None → None ≡ cond (lacks_row s ps) None (Some (engine_weight s ps ws))
    unreached z =
        let past : length ps ≤ row_for (declared s) ps = rw (row_is (declared s) ps) at (missed (sym e ∙ z)) in
        rw (sym (row_wanted s ps w refl refl) ∙ le-leb _ _ past) refl

    module _ {row : ℕ} (z : place ≡ Some row) where
      found : (row ≡ row_for (declared s) ps) × (row_for (declared s) ps < length ps)
      found = rw (row_is (declared s) ps) at (reached (sym e ∙ z))

      pub weighed : Some (get_or ws row 0) ≡ cond (lacks_row s ps) None (Some (engine_weight s ps ws))
      weighed =
          rw (sym (row_wanted s ps w refl refl) ∙ lt-leb _ _ found.1, ← weight_wanted s ps ws w refl found.0) refl

      -- rows that are right have as many weights
      pub row_within : rows_right ps ws ≡ true → row < length ws
      unfolding rows_right
      row_within r = omega (arith, found.0, found.1, eqb-true _ _ (both_hold (eqb (length ps) (length ws)) _ r).0)
