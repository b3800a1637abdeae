-- The kind of a row, by its letter; and what raising a line leaves as it was.
use mathlib.Core.Path.{◌≡◌, refl, sym, ap, ◌∙◌}
use mathlib.Core.Bool.{Bool, true, false, true≢false, ◌&&◌}
use mathlib.Core.List.{List, [], ◌∷◌, ◌++◌}
use mathlib.Core.Option.{Option, none, some, none-ne-some, some-injective}
use Prim.Native.Nat.{ℕ}
use borrow.Author.Tests.{eqb-true}
use lib.Dec.{eqb, ltb}
use lib.ListN.{length, get_or}
use Rattle.text.specs.Field.{begins}
use Rattle.text.specs.declared.Limit.{Limit}
use Rattle.text.specs.Line.{Line, numbers_text, line_text}
use Rattle.ground.proofs.Booleans.{both_hold}
use Rattle.text.proofs.Limits.{narrow, readable}
use Rattle.form.specs.Parts.{letter_of, kind_of, risen, raised}
use Rattle.form.specs.Reading.{kind_at}

pub kind_letter : (ls : List Line) (b : ℕ) (l : Line) → kind_of ls b ≡ some l → b ≡ letter_of l
unfolding kind_of
kind_letter [] b l e = absurd (none-ne-some l e)
kind_letter (m ∷ ls) b l e = go (eqb b (letter_of m)) refl (kind_letter ls b l)
  where
    go : (u : Bool) → eqb b (letter_of m) ≡ u → (kind_of ls b ≡ some l → b ≡ letter_of l) → b ≡ letter_of l
    go true d ih = eqb-true b (letter_of m) d ∙ ap letter_of (some-injective m l (rw (d, kind_of) at e))
    go false d ih = ih (rw (d, kind_of) at e)

-- ---- lines that can be told and read back: a tag, and numbers of at most ten digits, the first of which is there

unfoldable pub line_made : Line → Bool
line_made l = ltb 0 (length l.tag) && readable l.limits

abbrev pub absent : Option Line → Bool
absent none = true
absent (some l) = false

-- and no two with one letter
unfoldable pub kinds_made : List Line → Bool
kinds_made [] = true
kinds_made (l ∷ ls) = (line_made l && absent (kind_of ls (letter_of l))) && kinds_made ls

pub kind_made : (ls : List Line) (b : ℕ) (l : Line) → kinds_made ls ≡ true → kind_of ls b ≡ some l → line_made l ≡ true
unfolding kind_of kinds_made
kind_made [] b l h e = absurd (none-ne-some l e)
kind_made (m ∷ ls) b l h e =
    let p = both_hold (line_made m && absent (kind_of ls (letter_of m))) (kinds_made ls) h in
    let q = both_hold (line_made m) (absent (kind_of ls (letter_of m))) p.0 in
    go (eqb b (letter_of m)) refl q.0 (kind_made ls b l p.1)
  where
    go : (u : Bool) → eqb b (letter_of m) ≡ u
        → line_made m ≡ true
        → (kind_of ls b ≡ some l → line_made l ≡ true)
        → line_made l ≡ true
    go true d h ih = rw (some-injective m l (rw (d, kind_of) at e)) at h
    go false d h ih = ih (rw (d, kind_of) at e)

tag_at : (kinds : List Line) (tag x rest : List ℕ) → ltb 0 (length tag) ≡ true
    → kind_at kinds ((tag ++ x) ++ rest) ≡ kind_of kinds (get_or tag 0 0)
tag_at kinds [] x rest h = absurd (true≢false (sym h))
tag_at kinds (b ∷ tag) x rest h = refl

-- a line's text begins as the line's kind
pub line_at : (kinds : List Line) (l : Line) (ns rest : List ℕ) → line_made l ≡ true
    → kind_at kinds (line_text l ns ++ rest) ≡ kind_of kinds (letter_of l)
unfolding line_made
line_at kinds l ns rest h =
    tag_at kinds l.tag (numbers_text l.limits ns) rest
    (both_hold (ltb 0 (length l.tag)) (readable l.limits) h).0

-- ---- a raised line

risen_text : (up : Bool) (next : ℕ) (ls : List Limit) (ns : List ℕ)
    → numbers_text (risen up next ls) ns ≡ numbers_text ls ns
unfolding numbers_text
risen_text false next ls ns = refl
risen_text true next [] ns = refl
risen_text true next (l ∷ ls) [] = refl
risen_text true next (l ∷ ls) (n ∷ ns) = refl

pub raised_text : (up : Bool) (next : ℕ) (l : Line) (ns : List ℕ) → line_text (raised up next l) ns ≡ line_text l ns
raised_text up next l ns = ap (λ (x : List ℕ). l.tag ++ x) (risen_text up next l.limits ns)

risen_readable : (up : Bool) (next : ℕ) (ls : List Limit) → readable (risen up next ls) ≡ readable ls
unfolding readable narrow
risen_readable false next ls = refl
risen_readable true next [] = refl
risen_readable true next (l ∷ ls) = refl

pub raised_readable : (up : Bool) (next : ℕ) (l : Line) → line_made l ≡ true → readable (raised up next l).limits ≡ true
unfolding line_made
raised_readable up next l h =
    risen_readable up next l.limits ∙ (both_hold (ltb 0 (length l.tag)) (readable l.limits) h).1

-- ---- a text that begins as a line of one kind, or does not

pub kind_here : (l : Line) (t : List ℕ) → begins (letter_of l) t ≡ true → kind_at (l ∷ []) t ≡ some l
unfolding kind_of
kind_here l [] e = absurd (true≢false (sym e))
kind_here l (b ∷ t) e = rw (e, kind_of)

pub kind_away : (l : Line) (t : List ℕ) → begins (letter_of l) t ≡ false → kind_at (l ∷ []) t ≡ none
unfolding kind_of
kind_away l [] e = refl
kind_away l (b ∷ t) e = rw (e, kind_of)
