-- One piece of a text, and the rest after it.
use mathlib.Core.Path.{◌≡◌, refl, sym}
use mathlib.Core.List.{List, ◌∷◌, ◌++◌}
use Prim.Native.Nat.{ℕ, ◌+◌}
use native.Mathlib.Omega.{arith}
use lib.ListN.{length, drop}
use lib.Seq.{drop-append_seam}
use Rattle.form.specs.Outcome.{Found, took, lost, ahead, chained}

pub lost_not_found : {A : Type 0} {number at k : ℕ} {a : A} → lost number at ≡ took k a → ⊥
lost_not_found e = let z : ◌≡◌ {A = ℕ} 0 1 = cc in absurd (omega arith)

module _ {A : Type 0} where
  -- the text x gave a, and the text after it gives the rest
  pub chain_forth : (p : Found A) (next : A → List ℕ → Found (List A)) (x rest : List ℕ) (a : A) (xs : List A) (j : ℕ)
      → p ≡ took (length x) a
      → next a rest ≡ took j xs
      → chained p next (x ++ rest) ≡ took (length x + j) (a ∷ xs)
  chain_forth p next x rest a xs j e f = rw (e, drop-append_seam x rest, f)

  -- the two pieces of what was found
  pub record Pieces (p : Found A) (next : A → List ℕ → Found (List A)) (t : List ℕ) (k : ℕ) (xs : List A) : Type 0 where
    pub first : ℕ
    pub rest : ℕ
    pub a : A
    pub more : List A
    pub first_found : p ≡ took first a
    pub rest_found : next a (drop first t) ≡ took rest more
    pub both : k ≡ first + rest
    pub all : xs ≡ a ∷ more

  pub chain_back : (p : Found A) (next : A → List ℕ → Found (List A)) (t : List ℕ) (k : ℕ) (xs : List A)
      → chained p next t ≡ took k xs
      → Pieces p next t k xs
  chain_back (lost number at) next t k xs e = absurd (lost_not_found e)
  chain_back (took j a) next t k xs e = go (next a (drop j t)) refl e
    where
      go : (q : Found (List A)) → next a (drop j t) ≡ q → ahead j a q ≡ took k xs → Pieces (took j a) next t k xs
      go (took i ys) f d =
          record { first = j; rest = i; a = a; more = ys; first_found = refl; rest_found = f; both = cc; all = cc }
      go (lost number at) f d = absurd (lost_not_found d)

  -- where it went wrong: at the first piece, or after it
  pub data Broken (p : Found A) (next : A → List ℕ → Found (List A)) (t : List ℕ) (number k : ℕ) : Type 0 where
    at_first : p ≡ lost number k → Broken p next t number k
    at_rest : (j : ℕ) (a : A) (i : ℕ) → p ≡ took j a → next a (drop j t) ≡ lost number i → k ≡ j + i
        → Broken p next t number k

  pub chain_lost : (p : Found A) (next : A → List ℕ → Found (List A)) (t : List ℕ) (number k : ℕ)
      → chained p next t ≡ lost number k
      → Broken p next t number k
  chain_lost (lost m j) next t number k e = at_first cc
  chain_lost (took j a) next t number k e = go (next a (drop j t)) refl e
    where
      go : (q : Found (List A)) → next a (drop j t) ≡ q → ahead j a q ≡ lost number k
          → Broken (took j a) next t number k
      go (took i xs) f d = absurd (lost_not_found (sym d))
      go (lost m i) f d =
          let z : m ≡ number = cc in
          at_rest j a i refl (rw z at f) cc
