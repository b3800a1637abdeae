-- 02 (v): a byte is at fault when no text by the line rules begins with the bytes up to and with it; where a text stops
-- early, the place is the one after its last byte.
use Rattle.std.specs.Prelude.{ℕ, suc, ◌≤◌, ◌<◌, List, ◌++◌, length, take}
use Rattle.fault.specs.Rules.{Rule}

-- some text by R begins with x
pub record Begun (R : Rule) (x : List ℕ) : Type 0 where
  pub rest : List ℕ
  pub whole : R (x ++ rest)

-- the text t is not by R, and goes wrong at the place k: a byte of it, or the place after its last byte
pub record Faulty (R : Rule) (t : List ℕ) (k : ℕ) : Type 0 where
  pub inside : k ≤ length t
  pub wrong : R t → ⊥
  pub sound : Begun R (take k t)
  pub stuck : k < length t → Begun R (take (suc k) t) → ⊥
