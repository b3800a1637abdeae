-- A row as the code reads it, and rows as two columns.
use Rattle.std.specs.Prelude.{ℕ, ◌≤◌, ◌≡◌, List, length, get_or, Result, Ok, Err}
use Rattle.answers.specs.Refusals.{number}
use Rattle.ground.specs.Lists.{put_first}
use Rattle.text.specs.declared.Fault as Why
use Rattle.text.specs.Line.{Line, read_line}
use Rattle.form.specs.Parts.{Row}
use Rattle.text.specs.Read.{TextRead}
use Rattle.form.specs.Outcome.{Found, took, lost, outcome, Verdict, right, wrong}
use Rattle.sheet.specs.EngineText.{powers_of, weights_of}
use Rattle.reading.specs.Filled.{told_as}

-- ---- a row

-- how the reading of a row ended: its numbers, the third of them 1 where the line has but two, and how many bytes it
-- took; or a refusal's number and its place
pub data RowRead : Type 0 where
  Numbers : ℕ → ℕ → ℕ → ℕ → RowRead
  NoRow : ℕ → ℕ → RowRead

-- what the code answers, in these words
abbrev pub row_told : Result (List ℕ × ℕ) Why.Fault → RowRead
row_told (Ok (row, k)) = Numbers (get_or row 0 0) (get_or row 1 0) (get_or row 2 0) k
row_told (Err f) = NoRow (number f.refusal) f.at

-- what a row gives that was found so; a line of two numbers has a third, 1
abbrev pub row_as : Found (List ℕ) → RowRead
row_as (took k ns) = Numbers (get_or ns 0 0) (get_or ns 1 0) (get_or ns 2 1) k
row_as (lost number at) = NoRow number at

abbrev pub row_reach : RowRead → ℕ
row_reach (Numbers a b c k) = k
row_reach (NoRow number at) = at

-- the line l was read at the start of t
pub record RowOf (l : Line) (t : List ℕ) (r : RowRead) : Type 0 where
  pub found : r ≡ row_as (outcome (read_line l t))
  pub within : row_reach r ≤ length t

-- ---- rows

-- how the reading of rows ended: how many there are, or a refusal's number and its place
pub data RowsRead : Type 0 where
  Rows : ℕ → RowsRead
  NoRows : ℕ → ℕ → RowsRead

abbrev pub rows_told : Result ℕ Why.Fault → RowsRead
rows_told (Ok n) = Rows n
rows_told (Err f) = NoRows (number f.refusal) f.at

-- how many rows there are, or the fault
abbrev pub rows_ended : Found (List Row) → RowsRead
rows_ended (took k rows) = Rows (length rows)
rows_ended (lost number at) = NoRows number at

-- the place of a refusal; rows that are all read have none
abbrev pub rows_reach : RowsRead → ℕ
rows_reach (Rows n) = 0
rows_reach (NoRows number at) = at

-- a with a column of what was found at its start
abbrev pub column_into : Found (List Row) → (List Row → List ℕ) → List ℕ → List ℕ
column_into (took k rows) column a = put_first (column rows) a
column_into (lost number at) column a = a

-- of the text t was found f, the rows' two columns, which stand at the starts of a and b; after a fault nothing is said
-- of a and b
pub record Columns (f : Found (List Row)) (t : List ℕ) (r : RowsRead) (a b : List ℕ) : Type 0 where
  pub answer : r ≡ rows_ended f
  pub powers : a ≡ column_into f powers_of a
  pub weights : b ≡ column_into f weights_of b
  pub within : rows_reach r ≤ length t

-- ---- a whole text of rows

abbrev pub column_said : Verdict (List Row) → (List Row → List ℕ) → List ℕ → List ℕ
column_said (right rows) column a = put_first (column rows) a
column_said (wrong number line byte) column a = a

-- the text said q, rows whose two columns stand at the starts of a and b
pub record HeardRows (q : Verdict (List Row)) (r : TextRead) (a b : List ℕ) : Type 0 where
  pub answer : r ≡ told_as length q
  pub powers : a ≡ column_said q powers_of a
  pub weights : b ≡ column_said q weights_of b
