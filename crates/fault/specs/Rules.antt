-- 02 (v), the line rules: which texts of a form there are, whatever their numbers. Nothing here reads: a text is by a
-- rule if it can be put together so. Limits are no line rules, but that some numbers may be `-` and some left out.
use Rattle.std.specs.Prelude.{ℕ, zero, suc, ◌≤◌, ◌<◌, ◌≡◌, true, ◌⊎◌, List, [], ◌∷◌, ◌++◌}
use Rattle.text.specs.Quoted.{feed, dash}
use Rattle.text.specs.Number.{eleven_digits, digits_of}
use Rattle.text.specs.declared.Rule as Number
use Rattle.text.specs.declared.Limit.{Limit}
use Rattle.text.specs.Limit.{or_none, spare}
use Rattle.text.specs.Line.{Line, ender}
use Rattle.form.specs.Parts.{Part, Form}

-- a rule: which texts there are by it
abbrev pub Rule : Type 1
Rule = List ℕ → Type 0

-- just these bytes
abbrev pub Just : List ℕ → Rule
Just x t = t ≡ x

-- a text by R and then a text by S
pub record Then (R S : Rule) (t : List ℕ) : Type 0 where
  pub one : List ℕ
  pub two : List ℕ
  pub joined : t ≡ one ++ two
  pub by_one : R one
  pub by_two : S two

-- a text by R, or one by S
abbrev pub Either : Rule → Rule → Rule
Either R S t = R t ⊎ S t

-- ---- a line

-- a number of at most ten digits, as it is written
pub record Numeral (t : List ℕ) : Type 0 where
  pub value : ℕ
  pub few : value < eleven_digits
  pub written : t ≡ digits_of value

-- a field: a number, or `-` where there may be none
pub data Field (rule : Number.Rule) (t : List ℕ) : Type 0 where
  in_digits : Numeral t → Field rule t
  as_dash : or_none rule ≡ true → t ≡ dash ∷ [] → Field rule t

-- a field and the byte that ends it
abbrev pub Entry : Number.Rule → ℕ → Rule
Entry rule e = Then (Field rule) (Just (e ∷ []))

-- 02 (vi): where the numbers of ls may be left out, a field that ends its line; and then a text by S
abbrev pub ShortThen : Limit → List Limit → Rule → Rule
ShortThen l ls S t = (spare ls ≡ true) × Then (Entry l.rule feed) S t

-- a field for each limit, but for those that may be left out, and then a text by S
abbrev pub FieldsThen : List Limit → Rule → Rule
FieldsThen [] S = S
FieldsThen (l ∷ ls) S = Either (Then (Entry l.rule (ender ls)) (FieldsThen ls S)) (ShortThen l ls S)

-- a line, and then a text by S
abbrev pub LineThen : Line → Rule → Rule
LineThen l S = Then (Just l.tag) (FieldsThen l.limits S)

-- ---- a whole text

-- a line of one of the kinds, and then a text by S
abbrev pub OneThen : List Line → Rule → Rule
OneThen [] S t = ⊥
OneThen (l ∷ ls) S t = Either (LineThen l S) (OneThen ls S) t

-- so many lines, each of one of the kinds, and then a text by S
abbrev pub LinesThen : List Line → ℕ → Rule → Rule
LinesThen kinds zero S = S
LinesThen kinds (suc n) S = OneThen kinds (LinesThen kinds n S)

-- as many lines as the part may have, and then a text by S
pub record PartThen (p : Part) (S : Rule) (t : List ℕ) : Type 0 where
  pub count : ℕ
  pub enough : p.least ≤ count
  pub few : count ≤ p.most
  pub by : LinesThen p.kinds count S t

-- the parts, and nothing more
abbrev pub PartsRule : List Part → Rule
PartsRule [] = Just []
PartsRule (p ∷ ps) = PartThen p (PartsRule ps)

abbrev pub ByRules : Form → Rule
ByRules f = PartsRule f.parts
