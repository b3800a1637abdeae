-- Forms that are well made: every line has a tag and numbers of at most ten digits; a part's kinds differ in their
-- first bytes; a part with a choice in how many lines it has is told by a line's first byte from whatever may follow
-- it; and the longest text has room. A closed form is well made by `refl`.
use mathlib.Core.Path.{◌≡◌, refl, sym, ap, ◌∙◌}
use mathlib.Core.Bool.{Bool, true, false, true≢false, ◌&&◌, ◌||◌}
use mathlib.Core.List.{List, [], ◌∷◌, ◌++◌, append_assoc}
use mathlib.Core.Option.{Option, none, some, none-ne-some}
use Prim.Native.Nat.{ℕ}
use borrow.Author.Tests.{eqb-true, le-ltb}
use lib.Dec.{eqb, leb, ltb}
use Rattle.text.specs.Line.{Line, line_text}
use Rattle.ground.proofs.Booleans.{both_hold}
use Rattle.form.specs.Parts.{Part, Form, Rows, letter_of, kind_of, next_after}
use Rattle.form.specs.Reading.{kind_at}
use Rattle.form.specs.Writing.{row_ok, rows_ok, part_ok, parts_ok, row_text, rows_text, parts_text}
use Rattle.form.proofs.Letters.{absent, kind_letter, kinds_made, kind_made, line_at}
use Rattle.form.proofs.Held.{part_held}
use Rattle.form.proofs.Most.{parts_most}

-- no line of ms begins as one of kinds
unfoldable pub disjoint : List Line → List Line → Bool
disjoint kinds [] = true
disjoint kinds (m ∷ ms) = absent (kind_of kinds (letter_of m)) && disjoint kinds ms

-- no text of the parts begins as a line of kinds
unfoldable pub apart : List Line → List Part → Bool
apart kinds [] = true
apart kinds (p ∷ ps) = disjoint kinds p.kinds && (ltb 0 p.least || apart kinds ps)

-- a part whose lines are so many and no others, or are told from what follows
unfoldable pub told : Part → List Part → Bool
told p ps = leb p.most p.least || apart p.kinds ps

unfoldable pub parts_made : List Part → Bool
parts_made [] = true
parts_made (p ∷ ps) = kinds_made p.kinds && (told p ps && parts_made ps)

unfoldable pub well_made : Form → Bool
well_made f = parts_made f.parts && leb (parts_most f.parts) f.room

-- ---- parts that are apart

pub absent_none : (o : Option Line) → absent o ≡ true → o ≡ none
absent_none none e = refl
absent_none (some l) e = absurd (true≢false (sym e))

pub disjoint_none : (kinds ms : List Line) (b : ℕ) (l : Line) → disjoint kinds ms ≡ true
    → kind_of ms b ≡ some l
    → kind_of kinds b ≡ none
unfolding disjoint kind_of
disjoint_none kinds [] b l h e = absurd (none-ne-some l e)
disjoint_none kinds (m ∷ ms) b l h e =
    let p = both_hold (absent (kind_of kinds (letter_of m))) (disjoint kinds ms) h in
    go (eqb b (letter_of m)) refl (absent_none (kind_of kinds (letter_of m)) p.0) (disjoint_none kinds ms b l p.1)
  where
    go : (u : Bool) → eqb b (letter_of m) ≡ u
        → kind_of kinds (letter_of m) ≡ none
        → (kind_of ms b ≡ some l → kind_of kinds b ≡ none)
        → kind_of kinds b ≡ none
    go true d n ih = ap (kind_of kinds) (eqb-true b (letter_of m) d) ∙ n
    go false d n ih = ih (rw (d, kind_of) at e)

pub apart_none : (kinds : List Line) (ps : List Part) (v : List Rows) → parts_made ps ≡ true
    → apart kinds ps ≡ true
    → parts_ok ps v ≡ true
    → kind_at kinds (parts_text ps v) ≡ none
unfolding apart parts_made parts_ok parts_text rows_ok rows_text
apart_none kinds [] v m a h = refl
apart_none kinds (p ∷ ps) [] m a h = absurd (true≢false (sym h))
apart_none kinds (p ∷ ps) ([] ∷ v) m a h =
    let k = both_hold (kinds_made p.kinds) _ m in
    let hs = both_hold (part_ok p []) (parts_ok ps v) h in
    let n = le-ltb 0 p.least (part_held p [] hs.0).many in
    let b = both_hold (disjoint kinds p.kinds) (ltb 0 p.least || apart kinds ps) a in
    let ms = both_hold (told p ps) (parts_made ps) k.1 in
    apart_none kinds ps v ms.1 (rw n at b.1) hs.1
apart_none kinds (p ∷ ps) ((r ∷ rs) ∷ v) m a h =
    let hs = both_hold (part_ok p (r ∷ rs)) (parts_ok ps v) h in
    let q = both_hold (row_ok p 0 r) (rows_ok p (next_after r) rs) (part_held p (r ∷ rs) hs.0).held in
    go (kind_of p.kinds r.letter) refl q.0
  where
    go : (o : Option Line) → kind_of p.kinds r.letter ≡ o
        → row_ok p 0 r ≡ true
        → kind_at kinds ((row_text p.kinds r ++ rows_text p.kinds rs) ++ parts_text ps v) ≡ none
    go none e k = absurd (true≢false (sym (rw (e, row_ok) at k)))
    go (some l) e k =
        let y : List ℕ = rows_text p.kinds rs in
        let z : List ℕ = parts_text ps v in
        let made = kind_made p.kinds r.letter l (both_hold (kinds_made p.kinds) _ m).0 e in
        let away = disjoint_none kinds p.kinds r.letter l (both_hold (disjoint kinds p.kinds) _ a).0 e in
        rw (e, row_text, append_assoc (line_text l r.numbers) y z)
        (line_at kinds l r.numbers (y ++ z) made ∙ rw (← kind_letter p.kinds r.letter l e) away)
