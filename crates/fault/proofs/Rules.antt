-- Laws of rules: the place where a text goes wrong is settled, and what goes wrong after a text by a rule goes wrong in
-- both one after the other.
use mathlib.Core.Path.{◌≡◌, refl, sym, ap, ◌∙◌}
use mathlib.Core.Bool.{Bool, true, false}
use mathlib.Core.List.{List, [], ◌++◌, append_assoc}
use Prim.Native.Nat.{ℕ, suc, ◌+◌, ◌≤◌, ◌<◌}
use native.Mathlib.Nat.{add-suc}
use native.Mathlib.Omega.{arith}
use borrow.Author.Tests.{leb-true, leb-false}
use lib.Dec.{leb}
use lib.ListN.{length, take, drop, length-append, take-append-drop}
use lib.Seq.{drop-append_seam, take-append-add, take-take}
use Rattle.fault.specs.Rules.{Rule, Just, Then}
use Rattle.fault.specs.Faulty.{Begun, Faulty}

-- there is some text by S
abbrev pub Some : Rule → Type 0
Some S = Begun S []

-- what begins a text by R does so cut off sooner
pub begun_sooner : {R : Rule} (t : List ℕ) (k n : ℕ) → k ≤ n → Begun R (take n t) → Begun R (take k t)
begun_sooner t k n h b =
    let e : take n t ≡ take k t ++ drop k (take n t) =
    sym (rw (← take-take k n t h) (take-append-drop k (take n t))) in
    record { rest = drop k (take n t) ++ b.rest; whole = rw (e, append_assoc) at b.whole }

-- rules that have the same texts go wrong alike
pub alike : {R S : Rule} {t : List ℕ} {k : ℕ} → ((x : List ℕ) → R x → S x)
    → ((x : List ℕ) → S x → R x)
    → Faulty R t k
    → Faulty S t k
alike {t = t} {k = k} f g p =
    record {
      inside = p.inside;
      wrong = λ s. p.wrong (g t s);
      sound = record { rest = p.sound.rest; whole = f (take k t ++ p.sound.rest) p.sound.whole };
      stuck = λ h b. p.stuck h (record { rest = b.rest; whole = g (take (suc k) t ++ b.rest) b.whole });
    }

-- a text's start tells what stands after a text by R
abbrev pub Sure : Rule → Type 0
Sure R = (a b u v : List ℕ) → R a → R b → a ++ u ≡ b ++ v → u ≡ v

pub sure_just : (x : List ℕ) → Sure (Just x)
sure_just x a b u v p q e =
    sym (drop-append_seam x u)
    ∙ ap (drop (length x)) (ap (λ (y : List ℕ). y ++ u) (sym p) ∙ e ∙ ap (λ (y : List ℕ). y ++ v) q)
    ∙ drop-append_seam x v

-- what stands after a text by R goes wrong
pub later : {R S : Rule} {r : List ℕ} {j : ℕ} (x : List ℕ) → Sure R
    → R x
    → Faulty S r j
    → Faulty (Then R S) (x ++ r) (length x + j)
later {R} {S} {r} {j} x sure a p =
    record {
      inside = omega (arith, length-append x r, p.inside);
      wrong = λ w. p.wrong (cut r w);
      sound = record {
        rest = p.sound.rest;
        whole = record {
          one = x;
          two = take j r ++ p.sound.rest;
          joined = split j p.sound.rest;
          by_one = a;
          by_two = p.sound.whole;
        };
      };
      stuck = λ h b.
          p.stuck (omega (arith, length-append x r)) (record {
            rest = b.rest;
            whole =
                cut (take (suc j) r ++ b.rest)
                (rw (← add-suc (length x) j, split (suc j) b.rest) at b.whole);
          });
    }
  where
    split : (i : ℕ) (v : List ℕ) → take (length x + i) (x ++ r) ++ v ≡ x ++ (take i r ++ v)
    split i v = rw (take-append-add x r i) (append_assoc x (take i r) v)

    cut : (u : List ℕ) → Then R S (x ++ u) → S u
    cut u w = rw (sure x w.one u w.two a w.by_one w.joined) w.by_two

-- a text goes wrong at one place
pub one_place : {R : Rule} {t : List ℕ} {j k : ℕ} → Faulty R t j → Faulty R t k → j ≡ k
one_place {R} {t} {j} {k} p q = go (leb j k) (leb k j) refl refl
  where
    not_before : (i n : ℕ) → Faulty R t i → Faulty R t n → i < n → ⊥
    not_before i n a b h = a.stuck (omega (arith, b.inside)) (begun_sooner t (suc i) n (omega arith) b.sound)

    go : (s u : Bool) → leb j k ≡ s → leb k j ≡ u → j ≡ k
    go true true a b = omega (arith, leb-true j k a, leb-true k j b)
    go true false a b = absurd (not_before j k p q (leb-false k j b))
    go false u a b = absurd (not_before k j q p (leb-false j k a))

-- k bytes of t were read, and what is left decides on t: a text by S makes it one by R, and a place at fault there is
-- one here
pub record Goes (S R : Rule) (t : List ℕ) (k : ℕ) : Type 0 where
  pub by : S (drop k t) → R t
  pub on : (j : ℕ) → Faulty S (drop k t) j → Faulty R t (k + j)
