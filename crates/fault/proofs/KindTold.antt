-- The first byte of a text that stops at a place, told by what stands before the place: of whatever part it begins a
-- line, it begins no line of kinds from which the parts are told.
use mathlib.Core.Path.{◌≡◌, refl, sym, ap, ◌∙◌}
use mathlib.Core.Bool.{Bool, true, true≢false, ◌&&◌, ◌||◌}
use mathlib.Core.Logic.{inl, inr}
use mathlib.Core.List.{List, [], ◌∷◌, ◌++◌, append_assoc}
use mathlib.Core.Option.{Option, none, some}
use Prim.Native.Nat.{ℕ, zero, suc, ◌+◌, ◌≤◌, ◌<◌}
use native.Mathlib.Omega.{arith}
use borrow.Author.Tests.{le-ltb}
use lib.Dec.{ltb}
use lib.ListN.{length, take, get_or}
use Rattle.answers.specs.Refusals.{broken_line}
use Rattle.ground.proofs.Booleans.{both_hold}
use Rattle.text.specs.Line.{Line, line_text}
use Rattle.form.specs.Parts.{Part, Row, Rows, letter_of, kind_of, raised, next_after}
use Rattle.form.specs.Reading.{kind_at}
use Rattle.form.specs.Writing.{row_ok, rows_ok, row_text, rows_text}
use Rattle.form.proofs.Letters.{kind_letter, kinds_made, kind_made, line_at}
use Rattle.form.proofs.Made.{disjoint, disjoint_none, apart, told, parts_made}
use Rattle.fault.specs.Reached.{LineStops, in_tag, in_numbers, next_of, RowsStop, PartsStop}
use Rattle.fault.proofs.Choice.{first_of}
use Rattle.fault.proofs.OneOf.{tagged, kind_first}

-- ---- the line that stops

-- what begins as the tag for one byte or more
tag_begun : (tag t : List ℕ) (k : ℕ) → 0 < k → k < length tag → take k t ≡ take k tag
    → first_of t ≡ some (get_or tag 0 0)
tag_begun tag t zero h a e = absurd (omega arith)
tag_begun [] t (suc k) h a e = absurd (omega arith)
tag_begun (b ∷ tag) [] (suc k) h a e = absurd (omega (arith, ap length e))
tag_begun (b ∷ tag) (c ∷ t) (suc k) h a e = ap first_of e

tag_whole : (tag rest : List ℕ) → 0 < length tag → first_of (tag ++ rest) ≡ some (get_or tag 0 0)
tag_whole [] rest h = absurd (omega arith)
tag_whole (b ∷ tag) rest h = refl

-- a place with 2 tells the line if it is not the line's first byte; one with 3 always does
pub line_told : (kinds : List Line) (number : ℕ) (up : Bool) (next : ℕ) (l : Line) (t : List ℕ) (k : ℕ)
    → 0 < length l.tag
    → (number ≡ broken_line → 0 < k)
    → LineStops number (raised up next l) t k
    → kind_at kinds t ≡ kind_of kinds (letter_of l)
line_told kinds number up next l t k h g (in_tag q a e) =
    kind_first kinds t (letter_of l ∷ []) (tag_begun l.tag t k (g q) a e)
line_told kinds number up next l t k h g (in_numbers rest into q e p) =
    kind_first kinds t (letter_of l ∷ []) (ap first_of q ∙ tag_whole l.tag rest h)

-- ---- a row

row_away : (kinds : List Line) (p : Part) (next : ℕ) (r : Row) (rs : Rows) (rest : List ℕ)
    → kinds_made p.kinds ≡ true
    → disjoint kinds p.kinds ≡ true
    → rows_ok p next (r ∷ rs) ≡ true
    → kind_at kinds (rows_text p.kinds (r ∷ rs) ++ rest) ≡ none
unfolding rows_ok rows_text
row_away kinds p next r rs rest m d h =
    go (kind_of p.kinds r.letter) refl (both_hold (row_ok p next r) (rows_ok p (next_after r) rs) h).0
  where
    go : (o : Option Line) → kind_of p.kinds r.letter ≡ o
        → row_ok p next r ≡ true
        → kind_at kinds ((row_text p.kinds r ++ rows_text p.kinds rs) ++ rest) ≡ none
    go none e k = absurd (true≢false (sym (rw (e, row_ok) at k)))
    go (some l) e k =
        let y : List ℕ = rows_text p.kinds rs in
        let made = kind_made p.kinds r.letter l m e in
        rw (e, row_text, append_assoc (line_text l r.numbers) y rest)
        (line_at kinds l r.numbers (y ++ rest) made
        ∙ rw (← kind_letter p.kinds r.letter l e) (disjoint_none kinds p.kinds r.letter l d e))

-- ---- the parts

module _ (kinds : List Line) (number : ℕ) where
  rows_stop_away : (p : Part) (t : List ℕ) (k : ℕ) → kinds_made p.kinds ≡ true
      → disjoint kinds p.kinds ≡ true
      → (number ≡ broken_line → 0 < k)
      → RowsStop number p p.most 0 t k
      → kind_at kinds t ≡ none
  unfolding rows_text
  rows_stop_away p t k m d h s = rw s.text (go s.before refl)
    where
      go : (rs : Rows) → s.before ≡ rs → kind_at kinds (rows_text p.kinds rs ++ s.rest) ≡ none
      go [] e =
          let made = kind_made p.kinds s.letter s.line m s.kind in
          let at : k ≡ 0 + s.into = rw e at s.place in
          line_told kinds number p.rising (next_of 0 s.before) s.line s.rest s.into
          (tagged s.line made) (λ q. omega (arith, h q, at)) s.stops
          ∙ rw (← kind_letter p.kinds s.letter s.line s.kind)
          (disjoint_none kinds p.kinds s.letter s.line d s.kind)
      go (r ∷ rs) e = row_away kinds p 0 r rs s.rest m d (rw e at s.held)

  pub stop_away : (ps : List Part) (t : List ℕ) (k : ℕ) → parts_made ps ≡ true
      → apart kinds ps ≡ true
      → (number ≡ broken_line → 0 < k)
      → PartsStop number ps t k
      → kind_at kinds t ≡ none
  unfolding parts_made apart rows_text
  stop_away [] t k m a h (q, z) = absurd (omega (arith, h q))
  stop_away (p ∷ ps) t k m a h (inl s) =
      let ms = both_hold (kinds_made p.kinds) (told p ps && parts_made ps) m in
      let b = both_hold (disjoint kinds p.kinds) (ltb 0 p.least || apart kinds ps) a in
      rows_stop_away p t k ms.0 b.0 h s
  stop_away (p ∷ ps) t k m a h (inr s) =
      let ms = both_hold (kinds_made p.kinds) (told p ps && parts_made ps) m in
      let ns = both_hold (told p ps) (parts_made ps) ms.1 in
      let b = both_hold (disjoint kinds p.kinds) (ltb 0 p.least || apart kinds ps) a in
      rw s.text (go s.before refl ms.0 b.0 b.1 (stop_away ps s.rest s.into ns.1))
    where
      go : (rs : Rows) → s.before ≡ rs
          → kinds_made p.kinds ≡ true
          → disjoint kinds p.kinds ≡ true
          → (ltb 0 p.least || apart kinds ps) ≡ true
          → (apart kinds ps ≡ true → (number ≡ broken_line → 0 < s.into) → PartsStop number ps s.rest s.into
          → kind_at kinds s.rest ≡ none)
          → kind_at kinds (rows_text p.kinds rs ++ s.rest) ≡ none
      go [] e m d b ih =
          let n : p.least ≤ 0 = rw e at s.many in
          let at : k ≡ 0 + s.into = rw e at s.place in
          ih (rw (le-ltb 0 p.least n) at b) (λ q. omega (arith, h q, at)) s.there
      go (r ∷ rs) e m d b ih = row_away kinds p 0 r rs s.rest m d (rw e at s.held)
