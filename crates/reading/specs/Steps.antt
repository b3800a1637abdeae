-- One line more of a sheet: the lines are read one after another, each after what was read before it.
use Rattle.std.specs.Prelude.{ℕ, ◌+◌, ◌-◌, ◌≤◌, ◌≡◌, true, false, eqb}
use Rattle.std.specs.Prelude.{List, [], ◌∷◌, ◌++◌, length, take, drop, replicate}
use Rattle.std.proofs.lemmas.List.Edits.{sets}
use Rattle.text.specs.Read.{LineRead}
use Rattle.text.specs.Read.{Taken, Fault}
use Rattle.text.specs.Line.{Line, line_of, read_line}
use Rattle.text.specs.Read.{shift_by}
use Rattle.form.specs.Outcome.{Found, took, lost, mapped}
use Rattle.form.specs.Reading.{read_parts}
use Rattle.sheet.specs.Lines.{lines}
use Rattle.sheet.specs.Sheet.{limits_on}
use Rattle.sheet.specs.Places.{fittings_at, text_words}
use Rattle.sheet.specs.SheetText.{each_once, numbers_on, last_parts}
use Rattle.text.specs.Read.{reached}

-- ---- a line

-- the line of a tag and of the numbers from..to of a sheet
abbrev pub line_from : List ℕ → ℕ → ℕ → Line
line_from tag from to = line_of tag (take (to - from) (drop from (limits_on lines)))

-- those of some lines whose numbers start n places after the first
abbrev pub lines_at : ℕ → List Line → List Line
lines_at n [] = []
lines_at n (l ∷ ls) = elim (eqb n 0) [ true ↦ l ∷ ls | false ↦ lines_at (n - length l.limits) ls ]

-- a line of a tag has the numbers from..to of a sheet
pub record Next (tag : List ℕ) (from to : ℕ) : Type 0 where
  pub is : lines_at from lines ≡ line_from tag from to ∷ lines_at to lines
  pub order : from ≤ to
  pub end : to ≤ 1 + fittings_at

-- line l was read from the place `at` of t on, and went into a sheet's words o from the place n on
pub record ReadsOn (at : ℕ) (l : Line) (t : List ℕ) (n : ℕ) (o₀ : List ℕ) (r : LineRead) (o : List ℕ) : Type 0 where
  pub answer : r ≡ shift_by at (read_line l (drop at t)).ended
  pub stored : o ≡ sets o₀ n (read_line l (drop at t)).numbers
  pub kept : length o ≡ text_words
  pub within : reached r ≤ length t

-- ---- lines, and the rest of the sheet after them

-- k bytes gave xs; then the rest was read
abbrev pub onward : {A : Type 0} → List A → ℕ → Found (List A) → Found (List A)
onward xs k (took j ys) = took (k + j) (xs ++ ys)
onward xs k (lost number at) = lost number (k + at)

-- the words of a sheet from the line of ls on, the fittings among them, up to its end
unfoldable pub rest_on : List Line → List ℕ → Found (List ℕ)
rest_on ls t = mapped (numbers_on ls) (read_parts (each_once ls last_parts) t)

-- the words so were read up to where r says; then the rest is read, unless there was a fault
abbrev pub going_on : LineRead → List ℕ → (List ℕ → Found (List ℕ)) → List ℕ → Found (List ℕ)
going_on (Taken k) so rest t = onward so k (rest (drop k t))
going_on (Fault number at) so rest t = lost number at

-- how many words were read; a fault leaves that open
abbrev pub many_read : LineRead → ℕ → ℕ → ℕ
many_read (Taken k) many due = many
many_read (Fault number at) many due = due

-- of a sheet's text t the lines before the place from were read into o
pub record Past (t : List ℕ) (from : ℕ) (r : LineRead) (o : List ℕ) : Type 0 where
  pub so : List ℕ
  pub goes : rest_on lines t ≡ going_on r so (rest_on (lines_at from lines)) t
  pub stored : o ≡ sets (replicate text_words 0) 0 so
  pub many : many_read r (length so) from ≡ from
  pub room : length o ≡ text_words
  pub within : reached r ≤ length t
