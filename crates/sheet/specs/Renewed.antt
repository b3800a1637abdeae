-- 02 (vi): texts of before have FIT lines of two numbers; writing always gives three. What is written of a text that
-- was read is that text renewed: with a tab and `1` before the line feed of each FIT line of two numbers.
use Rattle.std.specs.Prelude.{ℕ, suc, ◌+◌, Bool, true, false, not, ◌&&◌, cond, List, [], ◌∷◌, map, eqb, length}
use Rattle.text.specs.Quoted.{tab, feed, digit0}
use Rattle.text.specs.Field.{agreed}
use Rattle.text.specs.Place.{cut_lines, joined}
use Rattle.sheet.specs.Lines.{fit_line}

-- how many tabs there are
unfoldable pub tabs : List ℕ → ℕ
tabs [] = 0
tabs (b ∷ t) = elim (eqb b tab) [ true ↦ suc (tabs t) | false ↦ tabs t ]

-- whether a line is a FIT line of two numbers: a tab stands before each of them
abbrev pub is_old : List ℕ → Bool
is_old line = eqb (agreed fit_line.tag line) (length fit_line.tag) && eqb (tabs line) 2

-- a line with a tab and `1` before its line feed
unfoldable pub with_one : List ℕ → List ℕ
with_one [] = []
with_one (b ∷ line) = elim (eqb b feed) [ true ↦ tab ∷ (1 + digit0) ∷ b ∷ with_one line | false ↦ b ∷ with_one line ]

abbrev pub renewed_line : List ℕ → List ℕ
renewed_line line = cond (is_old line) (with_one line) line

unfoldable pub renewed : List ℕ → List ℕ
renewed t = joined (map renewed_line (cut_lines t))

-- whether no line of a text is a FIT line of two numbers
unfoldable pub none_old : List (List ℕ) → Bool
none_old [] = true
none_old (x ∷ xs) = not (is_old x) && none_old xs

abbrev pub is_new : List ℕ → Bool
is_new t = none_old (cut_lines t)
