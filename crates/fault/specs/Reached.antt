-- 02 (v), on limits: where one is broken, the place is the field's first byte. Whatever is at fault at a place, every
-- field that ended before it is within its limits: the text up to there is written so, row after row and then number
-- after number.
use Rattle.std.specs.Prelude.{ℕ, ◌+◌, ◌≤◌, ◌<◌, ◌≡◌, true, false, ◌⊎◌, List, [], ◌∷◌, ◌++◌, length, take}
use Rattle.std.proofs.Math.Option.{some}
use Rattle.answers.specs.Refusals.{broken_line, outside_limits}
use Rattle.text.specs.Quoted.{tab, feed}
use Rattle.text.specs.Field.{field_of}
use Rattle.text.specs.Number.{eleven_digits, digits_of}
use Rattle.text.specs.declared.Limit.{Limit}
use Rattle.text.specs.Limit.{within, spare, all_hold}
use Rattle.text.specs.Line.{Line, ender, entry_text}
use Rattle.form.specs.Parts.{Part, Rows, kind_of, raised, next_after}
use Rattle.form.specs.Writing.{rows_ok, rows_text}
use Rattle.fault.specs.Rules.{Rule}
use Rattle.fault.specs.Faulty.{Faulty}

-- what may be said of a place of a text
abbrev pub Spot : Type 1
Spot = List ℕ → ℕ → Type 0

-- ---- at a field

-- what may end a number: what must, by the limits of the numbers after it, or the line feed where these may be left out
pub data EndedBy (more : List Limit) (e : ℕ) : Type 0 where
  as_due : e ≡ ender more → EndedBy more e
  short : spare more ≡ true → e ≡ feed → EndedBy more e

-- t starts with a number of at most ten digits and a byte that may end it; after the number last, that number is
-- outside the limit `here`
pub record Outside (here : Limit) (more : List Limit) (last : ℕ) (t : List ℕ) : Type 0 where
  pub value : ℕ
  pub end : ℕ
  pub rest : List ℕ
  pub few : value < eleven_digits
  pub ended : EndedBy more end
  pub text : t ≡ digits_of value ++ (end ∷ rest)
  pub outside : within here last value ≡ false

-- the field at the start of t is refused at k: for its form, and then it did not end before k; or for its limit, and
-- then at its first byte
pub data FieldStops (number : ℕ) (here : Limit) (more : List Limit) (last : ℕ) (t : List ℕ) (k : ℕ) : Type 0 where
  in_form : number ≡ broken_line → k ≤ length (field_of t) → FieldStops number here more last t k
  in_limit : number ≡ outside_limits → k ≡ 0 → Outside here more last t → FieldStops number here more last t k

-- ---- in a line

-- the last of the numbers, or the one before them
abbrev pub last_of : ℕ → List ℕ → ℕ
last_of last [] = last
last_of last (n ∷ ns) = last_of n ns

-- numbers with others to come, each ended by a tab
unfoldable pub tabbed : List Limit → List ℕ → List ℕ
tabbed [] ns = []
tabbed (l ∷ ls) [] = []
tabbed (l ∷ ls) (n ∷ ns) = entry_text l n ++ (tab ∷ tabbed ls ns)

-- numbers within their limits, and then the field that is refused
pub record NumbersStop (number : ℕ) (ls : List Limit) (last : ℕ) (t : List ℕ) (k : ℕ) : Type 0 where
  pub before : List ℕ
  pub done : List Limit
  pub here : Limit
  pub later : List Limit
  pub rest : List ℕ
  pub into : ℕ
  pub limits : ls ≡ done ++ (here ∷ later)
  pub many : length before ≡ length done
  pub held : all_hold done last before ≡ true
  pub text : t ≡ tabbed done before ++ rest
  pub place : k ≡ length (tabbed done before) + into
  pub stops : FieldStops number here later (last_of last before) rest into

-- in the line's tag, of which the bytes before k are there; or after it
pub data LineStops (number : ℕ) (l : Line) (t : List ℕ) (k : ℕ) : Type 0 where
  in_tag : number ≡ broken_line → k < length l.tag → take k t ≡ take k l.tag → LineStops number l t k
  in_numbers : (rest : List ℕ) (into : ℕ) → t ≡ l.tag ++ rest → k ≡ length l.tag + into
      → NumbersStop number l.limits 0 rest into → LineStops number l t k

-- ---- in a part, and in parts

-- where the row after rs starts
abbrev pub next_of : ℕ → Rows → ℕ
next_of next [] = next
next_of next (r ∷ rs) = next_of (next_after r) rs

-- rows within their limits, the first from next on, and then the line that is refused: it is one of the `left` lines
-- that there may be
pub record RowsStop (number : ℕ) (p : Part) (left next : ℕ) (t : List ℕ) (k : ℕ) : Type 0 where
  pub before : Rows
  pub rest : List ℕ
  pub into : ℕ
  pub letter : ℕ
  pub line : Line
  pub kind : kind_of p.kinds letter ≡ some line
  pub few : length before < left
  pub held : rows_ok p next before ≡ true
  pub text : t ≡ rows_text p.kinds before ++ rest
  pub place : k ≡ length (rows_text p.kinds before) + into
  pub stops : LineStops number (raised p.rising (next_of next before) line) rest into

-- as many rows as the part may have, all within their limits, and then what O says of the rest
pub record RowsPassed (p : Part) (O : Spot) (t : List ℕ) (k : ℕ) : Type 0 where
  pub before : Rows
  pub rest : List ℕ
  pub into : ℕ
  pub many : p.least ≤ length before
  pub few : length before ≤ p.most
  pub held : rows_ok p 0 before ≡ true
  pub text : t ≡ rows_text p.kinds before ++ rest
  pub place : k ≡ length (rows_text p.kinds before) + into
  pub there : O rest into

-- in one of the parts; or after them all, where nothing may stand
abbrev pub PartsStop : ℕ → List Part → Spot
PartsStop number [] t k = (number ≡ broken_line) × (k ≡ 0)
PartsStop number (p ∷ ps) t k = RowsStop number p p.most 0 t k ⊎ RowsPassed p (PartsStop number ps) t k

-- ---- a text that is refused

-- with 2: t goes wrong at k by the rule; with 2 or 3: what ended before k is within its limits, and with 3 the field at
-- k is not
pub record Refusal (R : Rule) (O : ℕ → Spot) (t : List ℕ) (number k : ℕ) : Type 0 where
  pub form : number ≡ broken_line → Faulty R t k
  pub limits : O number t k
