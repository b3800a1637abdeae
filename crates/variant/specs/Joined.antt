-- 02 (xi), the joined text, by lines: the variant's bytes, with the parent's line, as bytes, at the place of each that
-- the variant leaves out. Nothing here reads a text: it is cut after its line feeds, and a line is told by its tag.
use Rattle.std.specs.Prelude.{ℕ, Bool, true, false, List, [], ◌∷◌, ◌++◌, eqb, length, take, drop, get_or}
use Rattle.text.specs.Field.{agreed}
use Rattle.text.specs.Line.{Line}
use Rattle.text.specs.Place.{cut_lines, joined}
use Rattle.variant.specs.VariantText.{own_count, handed_lines}

-- the next of some lines of text
abbrev pub next_line : List (List ℕ) → List ℕ
next_line xs = get_or xs 0 []

-- whether the next of them has the tag of l
abbrev pub has_next : Line → List (List ℕ) → Bool
has_next l xs = eqb (agreed l.tag (next_line xs)) (length l.tag)

-- the lines of a variant from the place of the first of ls on, with those of ls that it leaves out written in; the
-- parent's from that place on are `parents`, and there each of ls stands
unfoldable pub written_in : List Line → List (List ℕ) → List (List ℕ) → List (List ℕ)
written_in [] parents own = own
written_in (l ∷ ls) parents own =
    elim (has_next l own) [
      | true ↦ next_line own ∷ written_in ls (drop 1 parents) (drop 1 own)
      | false ↦ next_line parents ∷ written_in ls (drop 1 parents) own
    ]

unfoldable pub joined_text : List ℕ → List ℕ → List ℕ
joined_text parent variant =
    joined
    (take own_count (cut_lines variant)
    ++ written_in handed_lines (drop own_count (cut_lines parent)) (drop own_count (cut_lines variant)))
