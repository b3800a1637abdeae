-- 02 (v): line from 1, and byte in that line from 1, of a place in a text: so many bytes stand before it. A line feed
-- belongs to the line that it ends.
use Rattle.std.specs.Prelude.{ℕ, zero, suc, ◌+◌, true, false, List, [], ◌∷◌, ◌++◌, eqb, length, take, drop}
use Rattle.text.specs.Quoted.{feed}

-- how many line feeds there are
unfoldable pub feeds : List ℕ → ℕ
feeds [] = 0
feeds (b ∷ t) = elim (eqb b feed) [ true ↦ suc (feeds t) | false ↦ feeds t ]

-- how many bytes there are since the last line feed, n of them before t
unfoldable pub since_feed : ℕ → List ℕ → ℕ
since_feed n [] = n
since_feed n (b ∷ t) = elim (eqb b feed) [ true ↦ since_feed 0 t | false ↦ since_feed (suc n) t ]

abbrev pub line_at : List ℕ → ℕ → ℕ
line_at t k = 1 + feeds (take k t)

abbrev pub byte_at : List ℕ → ℕ → ℕ
byte_at t k = 1 + since_feed 0 (take k t)

-- ---- the same by lines

-- a text cut after each line feed, x before it; what stands after the last one is a line too, be it empty
unfoldable pub cut_from : List ℕ → List ℕ → List (List ℕ)
cut_from x [] = x ∷ []
cut_from x (b ∷ t) = elim (eqb b feed) [ true ↦ (x ++ (b ∷ [])) ∷ cut_from [] t | false ↦ cut_from (x ++ (b ∷ [])) t ]

abbrev pub cut_lines : List ℕ → List (List ℕ)
cut_lines t = cut_from [] t

abbrev pub joined : List (List ℕ) → List ℕ
joined [] = []
joined (x ∷ xs) = x ++ joined xs

-- a text's first line, with the line feed that ends it; all of a text that has none
unfoldable pub first_line : List ℕ → List ℕ
first_line [] = []
first_line (b ∷ t) = elim (eqb b feed) [ true ↦ b ∷ [] | false ↦ b ∷ first_line t ]

-- what stands after its first n lines
unfoldable pub after_lines : ℕ → List ℕ → List ℕ
after_lines zero t = t
after_lines (suc n) t = after_lines n (drop (length (first_line t)) t)
