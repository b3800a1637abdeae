-- What a reader can say of a text that goes wrong, and of one by the rules. Limits are judged field by field: where one
-- is broken, that is told, and nothing that comes after the field.
use Prim.Native.Nat.{ℕ, ◌≤◌}
use mathlib.Core.List.{List}
use Rattle.answers.specs.Refusals.{broken_line, outside_limits}
use Rattle.fault.proofs.Ended.{after_field}

-- that a text is refused, with a number and at a place, in the words of some reader
abbrev pub Refusing : Type 1
Refusing = ℕ → ℕ → Type 0

-- of the text t, which goes wrong at k: refused with 2 there, or with 3 at a field that ended before
pub data FaultTold (R : Refusing) (t : List ℕ) (k : ℕ) : Type 0 where
  there : R broken_line k → FaultTold R t k
  sooner : (j : ℕ) → R outside_limits j → after_field t j ≤ k → FaultTold R t k

-- of a text by the rules: accepted, or refused with 3
pub data RulesTold (Accepted : Type 0) (R : Refusing) : Type 0 where
  accepted : Accepted → RulesTold Accepted R
  outside : (j : ℕ) → R outside_limits j → RulesTold Accepted R

-- ---- from one reader's words to another's

module _ (R S : Refusing) (on : (number k : ℕ) → R number k → S number k) where
  pub fault_reworded : (t : List ℕ) (k : ℕ) → FaultTold R t k → FaultTold S t k
  fault_reworded t k (there e) = there (on broken_line k e)
  fault_reworded t k (sooner j e h) = sooner j (on outside_limits j e) h

  pub rules_reworded : (A B : Type 0) → (A → B) → RulesTold A R → RulesTold B S
  rules_reworded A B f (accepted a) = accepted (f a)
  rules_reworded A B f (outside j e) = outside j (on outside_limits j e)
