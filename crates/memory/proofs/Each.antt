-- A test of each number below n, as a loop makes it and as a reader uses it.
use mathlib.Core.Path.{◌≡◌, refl, sym, ap, ◌∙◌}
use mathlib.Core.Bool.{Bool, true, false, ◌&&◌, and-false}
use mathlib.Core.Logic.{inl, inr}
use Prim.Native.Nat.{ℕ, zero, suc, ◌+◌, ◌≤◌, ◌<◌}
use native.Mathlib.Nat.{eq-or-lt_of_le}
use native.Mathlib.Numerals.{add-one}
use native.Mathlib.Omega.{arith}
use Rattle.ground.proofs.Booleans.{both_hold}
use Rattle.memory.specs.Formed.{each}

module _ (f : ℕ → Bool) where
  pub each_none : each 0 f ≡ true
  unfolding each
  each_none = refl

  pub each_more : (i : ℕ) → each i f ≡ true → f i ≡ true → each (i + 1) f ≡ true
  unfolding each
  each_more i h e = rw (add-one i, h, e) refl

  pub each_fails : (n i : ℕ) → i < n → f i ≡ false → each n f ≡ false
  unfolding each
  each_fails zero i l e = absurd (omega arith)
  each_fails (suc n) i l e =
      elim (eq-or-lt_of_le {n = i} {m = n} (omega arith)) [
        | inl q ↦ ap (λ (b : Bool). each n f && b) (sym (ap f q) ∙ e) ∙ and-false (each n f)
        | inr h ↦ ap (λ (b : Bool). b && f n) (each_fails n i h e)
      ]

  pub each_whole : (n i : ℕ) → i ≤ n → n ≤ i → each i f ≡ true → each n f ≡ true
  each_whole n i h l e = let q : n ≡ i = omega arith in rw q e

  pub each_at : (n i : ℕ) → i < n → each n f ≡ true → f i ≡ true
  unfolding each
  each_at zero i l e = absurd (omega arith)
  each_at (suc n) i l e =
      let p = both_hold (each n f) (f n) e in
      elim (eq-or-lt_of_le {n = i} {m = n} (omega arith)) [ inl q ↦ ap f q ∙ p.1 | inr h ↦ each_at n i h p.0 ]

  pub each_every : (n : ℕ) → ((i : ℕ) → i < n → f i ≡ true) → each n f ≡ true
  unfolding each
  each_every zero h = refl
  each_every (suc n) h = rw (each_every n (λ (i : ℕ) (l : i < n). h i (omega arith)), h n (omega arith)) refl
