-- 02 (xi), the joined sheet by rows: for each line that a variant may leave out its own row or the parent's, and every
-- other row its own. That the joined text says these rows is a law; what is promised is said by texts alone.
use Rattle.std.specs.Prelude.{List, [], ◌∷◌, drop, get_or}
use Rattle.text.specs.Line.{Line}
use Rattle.form.specs.Parts.{Rows}
use Rattle.variant.specs.VariantText.{own_count, own_lines, handed_lines}

-- a line's rows: its own, or the parent's where it has none
abbrev pub own_or : Rows → Rows → Rows
own_or parents [] = parents
own_or parents (r ∷ rs) = r ∷ rs

-- the next of the rows of parts
abbrev pub next_rows : List Rows → Rows
next_rows v = get_or v 0 []

-- the rows of the lines hs, which may be handed on, and then what follows them
unfoldable pub handed_rows : List Line → List Rows → List Rows → List Rows
handed_rows [] parents own = own
handed_rows (h ∷ hs) parents [] = []
handed_rows (h ∷ hs) parents (rs ∷ own) = own_or (next_rows parents) rs ∷ handed_rows hs (drop 1 parents) own

-- with the lines ls before them, which are the variant's own
unfoldable pub rows_from : List Line → List Line → List Rows → List Rows → List Rows
rows_from [] hs parents own = handed_rows hs parents own
rows_from (l ∷ ls) hs parents [] = []
rows_from (l ∷ ls) hs parents (rs ∷ own) = rs ∷ rows_from ls hs parents own

abbrev pub joined_rows : List Rows → List Rows → List Rows
joined_rows parents own = rows_from own_lines handed_lines (drop own_count parents) own
