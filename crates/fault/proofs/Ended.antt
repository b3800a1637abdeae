-- Where a limit is broken, the field there has ended, and the text up to its end begins some text by the rules: a
-- field's form is judged before its limits, and nothing before is at fault.
use mathlib.Core.Path.{◌≡◌, sym, ap, ◌∙◌}
use mathlib.Core.List.{List, ◌++◌, append_assoc}
use Prim.Native.Nat.{ℕ, suc, ◌+◌, ◌≤◌, ◌<◌}
use native.Mathlib.Omega.{arith}
use lib.ListN.{length, take, drop, length-append}
use lib.Seq.{drop-append_seam, drop-drop, take-append-add}
use Rattle.ground.proofs.Booleans.{by_less}
use Rattle.text.specs.Field.{field_of}
use Rattle.text.proofs.Led.{Led}
use Rattle.fault.specs.Rules.{Rule}
use Rattle.fault.specs.Faulty.{Begun, Faulty}
use Rattle.fault.proofs.Rules.{begun_sooner}

-- the place after the field at k and the byte that ends it
abbrev pub after_field : List ℕ → ℕ → ℕ
after_field t k = k + suc (length (field_of (drop k t)))

-- the field at k has its end in t, and some text by R begins with t up to there
pub record Ended (R : Rule) (t : List ℕ) (k : ℕ) : Type 0 where
  pub inside : after_field t k ≤ length t
  pub begun : Begun R (take (after_field t k) t)

-- a text that goes wrong goes wrong after it
pub ended_before : {R : Rule} {t : List ℕ} {k j : ℕ} → Ended R t j → Faulty R t k → after_field t j ≤ k
ended_before {R} {t} {k} {j} e p = by_less k (after_field t j) (λ h. absurd (not_before h)) (λ h. h)
  where
    not_before : k < after_field t j → ⊥
    not_before h =
        p.stuck (omega (arith, e.inside)) (begun_sooner t (suc k) (after_field t j) (omega arith) e.begun)

-- what stands after x, and x before it
pub after_later : (x t : List ℕ) (k : ℕ) → after_field (x ++ t) (length x + k) ≡ length x + after_field t k
after_later x t k =
    let d : drop (length x + k) (x ++ t) ≡ drop k t =
    sym (drop-drop k (length x) (x ++ t)) ∙ ap (drop k) (drop-append_seam x t) in
    rw d (omega arith)

pub ended_later : {R S : Rule} {t : List ℕ} {k : ℕ} (x : List ℕ) → ((u : List ℕ) → S u → R (x ++ u)) → Ended S t k
    → Ended R (x ++ t) (length x + k)
ended_later {t = t} {k = k} x f e =
    let n : ℕ = after_field t k in
    let c : take (length x + n) (x ++ t) ++ e.begun.rest ≡ x ++ (take n t ++ e.begun.rest) =
    rw (take-append-add x t n) (append_assoc x (take n t) e.begun.rest) in
    record {
      inside = omega (arith, after_later x t k, e.inside, length-append x t);
      begun = rw (after_later x t k) (record {
        rest = e.begun.rest;
        whole = rw c (f (take n t ++ e.begun.rest) e.begun.whole);
      });
    }

-- whatever is by R is by S
pub ended_wider : {R S : Rule} {t : List ℕ} {k : ℕ} → ((x : List ℕ) → R x → S x) → Ended R t k → Ended S t k
ended_wider {t = t} {k = k} f e =
    let b = e.begun in
    record {
      inside = e.inside;
      begun = record { rest = b.rest; whole = f (take (after_field t k) t ++ b.rest) b.whole };
    }

-- x was read from t, and what is left is so
pub ended_led : {R S : Rule} {x t : List ℕ} {j i k : ℕ} → Led x t j → k ≡ j + i
    → ((u : List ℕ) → S u → R (x ++ u))
    → Ended S (drop j t) i
    → Ended R t k
ended_led {x = x} l c f e = rw (c, l.count, l.start) (ended_later x f e)
