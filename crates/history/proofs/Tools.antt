-- Small tools of the proofs: tests and options.
use Prim.Native.Nat.{ℕ}
use native.Mathlib.Omega.{arith}
use mathlib.Core.Path.{◌≡◌, refl, sym, subst}
use mathlib.Core.Bool.{true, false}
use mathlib.Core.Option.{none, some}
use lib.Dec.{eqb}
use borrow.Author.Tests.{eqb-true, eq-eqb}
use Rattle.ground.proofs.Booleans.{by_test}

pub self : (e : ℕ) → eqb e e ≡ true
self e = eq-eqb e e refl

-- what holds of e and of each other number holds of each number
pub at_or : (e : ℕ) (P : ℕ → Type 0) → P e → ((d : ℕ) → eqb d e ≡ false → P d) → (d : ℕ) → P d
at_or e P p q d = by_test (eqb d e) (λ t. subst P (sym (eqb-true d e t)) p) (q d)

pub none≢some : {A : Type 0} {x : A} → none ≡ some x → ⊥
none≢some e = let z : ◌≡◌ {A = ℕ} 0 1 = cc in omega arith

pub some_inj : {A : Type 0} {x y : A} → some x ≡ some y → x ≡ y
some_inj e = cc
