-- What was found stands in a lent list; and what a whole text says. Where the text had a fault, nothing is said of the
-- list.
use Rattle.std.specs.Prelude.{ℕ, ◌≤◌, ◌≡◌, List, length}
use Rattle.text.specs.Read.{LineRead, reached}
use Rattle.text.specs.Read.{Taken, Fault}
use Rattle.text.specs.Read.{TextRead}
use Rattle.text.specs.Read.{Whole, Wrong}
use Rattle.form.specs.Outcome.{Found, took, lost, Verdict, right, wrong}
use Rattle.sheet.specs.TextCalls.{read_into}

-- how the reading that found f ended
abbrev pub ended_as : {A : Type 0} → Found A → LineRead
ended_as (took k a) = Taken k
ended_as (lost number at) = Fault number at

-- what was found, in the place of what was before
abbrev pub found_into : Found (List ℕ) → List ℕ → List ℕ
found_into (took k s) before = s
found_into (lost number at) before = before

-- of the text t was found f, which went into o
pub record Filled (f : Found (List ℕ)) (t : List ℕ) (r : LineRead) (o : List ℕ) : Type 0 where
  pub answer : r ≡ ended_as f
  pub stored : o ≡ found_into f o
  pub within : reached r ≤ length t

-- ---- a whole text

-- how the reading of a whole text ended, with a count of what it says
abbrev pub told_as : {A : Type 0} → (A → ℕ) → Verdict A → TextRead
told_as count (right a) = Whole (count a)
told_as count (wrong number line byte) = Wrong number line byte

-- the text said q, a list that went into o
pub record Heard (q : Verdict (List ℕ)) (r : TextRead) (o : List ℕ) : Type 0 where
  pub answer : r ≡ told_as length q
  pub stored : o ≡ read_into q o
