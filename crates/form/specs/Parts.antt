-- A text as data: a form is its parts, one after the other, and the most bytes that are read.
use Rattle.std.specs.Prelude.{ℕ, suc, max, Bool, true, false, List, [], ◌∷◌, ◌++◌, eqb, get_or}
use Rattle.std.proofs.Math.Option.{Option, none, some}
use Rattle.text.specs.declared.Limit.{Limit}
use Rattle.text.specs.Limit.{limit}
use Rattle.text.specs.Line.{Line}

-- from least to most lines, each of one of the kinds, told by its first byte; where they rise, each line's first number
-- is above the one of the line before
pub record Part : Type 0 where
  pub least : ℕ
  pub most : ℕ
  pub rising : Bool
  pub kinds : List Line

pub record Form : Type 0 where
  pub parts : List Part
  pub room : ℕ

abbrev pub some_lines : ℕ → ℕ → List Line → Part
some_lines least most kinds = record { least = least; most = most; rising = false; kinds = kinds }

abbrev pub rising_lines : ℕ → ℕ → Line → Part
rising_lines least most l = record { least = least; most = most; rising = true; kinds = l ∷ [] }

abbrev pub one_line : Line → Part
one_line l = some_lines 1 1 (l ∷ [])

abbrev pub maybe_line : Line → Part
maybe_line l = some_lines 0 1 (l ∷ [])

-- ---- what a text of a form says: for each part its rows

-- a line's first byte, and its numbers
pub record Row : Type 0 where
  pub letter : ℕ
  pub numbers : List ℕ

abbrev pub line_row : ℕ → List ℕ → Row
line_row letter numbers = record { letter = letter; numbers = numbers }

abbrev pub Rows : Type 0
Rows = List Row

-- the numbers of rows, one row after the other
unfoldable pub numbers_of : Rows → List ℕ
numbers_of [] = []
numbers_of (r ∷ rs) = r.numbers ++ numbers_of rs

-- ---- the line of a row

abbrev pub letter_of : Line → ℕ
letter_of l = get_or l.tag 0 0

-- the first of the kinds that has the letter b
unfoldable pub kind_of : List Line → ℕ → Option Line
kind_of [] b = none
kind_of (l ∷ ls) b = elim (eqb b (letter_of l)) [ true ↦ some l | false ↦ kind_of ls b ]

-- limits whose first number is from next on, where they rise
abbrev pub risen : Bool → ℕ → List Limit → List Limit
risen false next ls = ls
risen true next [] = []
risen true next (l ∷ ls) = limit (max l.low next) l.high l.rule ∷ ls

abbrev pub raised : Bool → ℕ → Line → Line
raised up next l = record { tag = l.tag; limits = risen up next l.limits }

-- where the row after r starts
abbrev pub next_after : Row → ℕ
next_after r = suc (get_or r.numbers 0 0)
