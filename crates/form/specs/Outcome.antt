-- What the start of a text gives: how many bytes and what they say, or a refusal's number and its place; and what a
-- whole text gives.
use Rattle.std.specs.Prelude.{ℕ, ◌+◌, List, ◌∷◌, drop}
use Rattle.text.specs.Read.{Taken, Fault}
use Rattle.text.specs.Line.{Reading}
use Rattle.text.specs.Place.{line_at, byte_at}

pub data Found (A : Type 0) : Type 0 where
  took : ℕ → A → Found A
  lost : ℕ → ℕ → Found A

-- what a reading of numbers gives; where it went wrong, the numbers before the fault do not count
abbrev pub outcome : Reading → Found (List ℕ)
outcome p = elim p.ended [ Taken k ↦ took k p.numbers | Fault number at ↦ lost number at ]

module _ {A B : Type 0} where
  abbrev pub mapped : (A → B) → Found A → Found B
  mapped f (took k a) = took k (f a)
  mapped f (lost number at) = lost number at

module _ {A : Type 0} where
  -- k bytes gave a; then the rest was read
  abbrev pub ahead : ℕ → A → Found (List A) → Found (List A)
  ahead k a (took j xs) = took (k + j) (a ∷ xs)
  ahead k a (lost number at) = lost number (k + at)

  -- one, and where it is there, next of the bytes of t that follow it
  abbrev pub chained : Found A → (A → List ℕ → Found (List A)) → List ℕ → Found (List A)
  chained (took k a) next t = ahead k a (next a (drop k t))
  chained (lost number at) next t = lost number at

-- ---- a whole text

-- what it says; or, 02 (v), a refusal's number with the line and the byte, both from 1, or both 0 for a text too long
pub data Verdict (A : Type 0) : Type 0 where
  right : A → Verdict A
  wrong : ℕ → ℕ → ℕ → Verdict A

module _ {A : Type 0} where
  -- by what was found from the start of t to its end
  abbrev pub placed : List ℕ → Found A → Verdict A
  placed t (took k a) = right a
  placed t (lost number at) = wrong number (line_at t at) (byte_at t at)

module _ {A B : Type 0} where
  abbrev pub saying : (A → B) → Verdict A → Verdict B
  saying f (right a) = right (f a)
  saying f (wrong number line byte) = wrong number line byte
