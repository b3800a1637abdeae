-- One rule or another, told by a text's start: rules that agree on the texts that begin as t does go wrong in t alike.
use mathlib.Core.Path.{◌≡◌, refl}
use mathlib.Core.Logic.{◌⊎◌, inl, inr}
use mathlib.Core.List.{List, [], ◌∷◌, ◌++◌}
use mathlib.Core.Option.{Option, none, some}
use Prim.Native.Nat.{ℕ, suc, ◌≤◌, ◌<◌}
use native.Mathlib.Omega.{arith}
use lib.ListN.{length, take}
use Rattle.fault.specs.Rules.{Rule}
use Rattle.fault.specs.Faulty.{Faulty}
use Rattle.fault.proofs.Rules.{begun_sooner, Goes}

-- ---- rules that agree on the texts that begin with the bytes of t up to and with the one at k

-- whatever is by R is by S; of t, and of texts that begin with so many of its bytes, whatever is by S is by R
pub record AgreeFrom (R S : Rule) (t : List ℕ) (k : ℕ) : Type 0 where
  pub wider : (x : List ℕ) → R x → S x
  pub whole : S t → R t
  pub begun : (j : ℕ) (v : List ℕ) → k ≤ j → j < length t → S (take (suc j) t ++ v) → R (take (suc j) t ++ v)

module _ {R S : Rule} {t : List ℕ} {i k : ℕ} (a : AgreeFrom R S t i) (h : i ≤ k) where
  pub from_faulty : Faulty R t k → Faulty S t k
  from_faulty p =
      record {
        inside = p.inside;
        wrong = λ s. p.wrong (a.whole s);
        sound = record { rest = p.sound.rest; whole = a.wider (take k t ++ p.sound.rest) p.sound.whole };
        stuck = λ l b. p.stuck l (record { rest = b.rest; whole = a.begun k b.rest h l b.whole });
      }

pub from_goes : {Q R S : Rule} {t : List ℕ} {k : ℕ} → AgreeFrom R S t k → Goes Q R t k → Goes Q S t k
from_goes {t = t} a g = record { by = λ q. a.wider t (g.by q); on = λ j q. from_faulty a (omega arith) (g.on j q) }

-- one rule or another, and t goes wrong by the other
pub agree_beside : {R O S : Rule} {t : List ℕ} {i k : ℕ} → ((x : List ℕ) → R x → S x)
    → ((x : List ℕ) → S x → R x ⊎ O x)
    → i ≤ k
    → Faulty O t i
    → AgreeFrom R S t k
agree_beside {R} {O} {S} {t} {i} {k} wider one h p =
    record {
      wider = wider;
      whole = λ s. go t p.wrong (one t s);
      begun = λ j v m l s.
          let x : List ℕ = take (suc j) t ++ v in
          go x
          (λ o.
          p.stuck (omega arith) (begun_sooner t (suc i) (suc j) (omega arith) (record { rest = v; whole = o })))
          (one x s);
    }
  where
    go : (x : List ℕ) → (O x → ⊥) → R x ⊎ O x → R x
    go x n (inl r) = r
    go x n (inr o) = absurd (n o)

-- ---- that agree on the texts that begin with the first byte of t

abbrev pub first_of : List ℕ → Option ℕ
first_of [] = none
first_of (b ∷ t) = some b

-- whatever is by R is by S, and of texts with t's first byte whatever is by S is by R
pub record Agree (R S : Rule) (t : List ℕ) : Type 0 where
  pub wider : (x : List ℕ) → R x → S x
  pub same : (x : List ℕ) → first_of x ≡ first_of t → S x → R x

pub first_start : (k : ℕ) (t v : List ℕ) → k < length t → first_of (take (suc k) t ++ v) ≡ first_of t
first_start k [] v h = absurd (omega arith)
first_start k (b ∷ t) v h = refl

module _ {R S : Rule} {t : List ℕ} (a : Agree R S t) where
  agree_from : (k : ℕ) → AgreeFrom R S t k
  agree_from k =
      record {
        wider = a.wider;
        whole = a.same t refl;
        begun = λ j v m h. a.same (take (suc j) t ++ v) (first_start j t v h);
      }

  pub agree_faulty : {k : ℕ} → Faulty R t k → Faulty S t k
  agree_faulty {k} p = from_faulty (agree_from k) (omega arith) p

  pub agree_goes : {Q : Rule} {k : ℕ} → Goes Q R t k → Goes Q S t k
  agree_goes {k = k} g = from_goes (agree_from k) g
