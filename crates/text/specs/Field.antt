-- 01, The sheet, how fields and lines are parted: what a field is, and how a text begins.
use Rattle.std.specs.Prelude.{ℕ, suc, Bool, true, false, ◌||◌, List, [], ◌∷◌, eqb}
use Rattle.text.specs.Quoted.{tab, feed}

-- all bytes up to a tab or a line feed
unfoldable pub field_of : List ℕ → List ℕ
field_of [] = []
field_of (b ∷ t) = elim (eqb b tab || eqb b feed) [ true ↦ [] | false ↦ b ∷ field_of t ]

-- whether the text's first byte is b
abbrev pub begins : ℕ → List ℕ → Bool
begins b [] = false
begins b (c ∷ t) = eqb c b

-- in how many leading bytes the tag and the text agree
unfoldable pub agreed : List ℕ → List ℕ → ℕ
agreed [] t = 0
agreed (a ∷ s) [] = 0
agreed (a ∷ s) (b ∷ t) = elim (eqb b a) [ true ↦ suc (agreed s t) | false ↦ 0 ]
