-- What a whole text says, by how its reading ended.
use mathlib.Core.Path.{◌≡◌, refl, sym, ap}
use mathlib.Core.List.{List}
use Prim.Native.Nat.{ℕ}
use native.Mathlib.Omega.{arith}
use lib.ListN.{length}
use Rattle.text.specs.Read.{Whole, Wrong}
use Rattle.form.specs.Outcome.{Verdict, right, wrong}
use Rattle.reading.specs.Filled.{told_as, Heard}

module _ {A : Type 0} (count : A → ℕ) where
  pub told_wrong : (q : Verdict A) {number line byte : ℕ} → Wrong number line byte ≡ told_as count q
      → q ≡ wrong number line byte
  told_wrong (right a) e = let z : ◌≡◌ {A = ℕ} 0 1 = cc in absurd (omega arith)
  told_wrong (wrong n l b) e = cc

  pub told_right : (q : Verdict A) {n : ℕ} → Whole n ≡ told_as count q → (a : A) × (q ≡ right a) × (n ≡ count a)
  told_right (right a) e = (a, refl, cc)
  told_right (wrong n l b) e = let z : ◌≡◌ {A = ℕ} 0 1 = cc in absurd (omega arith)

pub heard_right : {q : Verdict (List ℕ)} {n : ℕ} {o : List ℕ} → Heard q (Whole n) o → q ≡ right o
heard_right {q} p =
    let (s, is, many) = told_right length q p.answer in rw is (ap right (sym (rw is at p.stored)))
