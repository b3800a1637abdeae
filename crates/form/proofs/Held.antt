-- What it is for a row, and for the rows of a part, to be within the limits.
use mathlib.Core.Path.{◌≡◌, refl, sym, ◌∙◌}
use mathlib.Core.Bool.{Bool, true, false, true≢false, ◌&&◌}
use mathlib.Core.List.{[], ◌∷◌}
use mathlib.Core.Option.{none, some}
use Prim.Native.Nat.{ℕ, ◌≤◌}
use borrow.Author.Tests.{eqb-true, leb-true, le-leb}
use lib.Dec.{eqb, leb}
use lib.ListN.{length}
use Rattle.text.specs.Limit.{all_hold}
use Rattle.text.specs.Line.{Line}
use Rattle.ground.proofs.Booleans.{both_hold}
use Rattle.form.specs.Parts.{Part, Row, Rows, letter_of, kind_of, risen}
use Rattle.form.specs.Writing.{row_ok, rows_ok, part_ok}

pub row_held : (p : Part) (next : ℕ) (r : Row) (l : Line) → kind_of p.kinds r.letter ≡ some l
    → row_ok p next r ≡ all_hold (risen p.rising next l.limits) 0 r.numbers
row_held p next r l e = rw (e, row_ok)

-- a row of a part that has one kind
pub only_held : (p : Part) (l : Line) (next : ℕ) (r : Row) → p.kinds ≡ l ∷ []
    → row_ok p next r ≡ true
    → (r.letter ≡ letter_of l) × (all_hold (risen p.rising next l.limits) 0 r.numbers ≡ true)
unfolding kind_of
only_held p l next r q h = go (eqb r.letter (letter_of l)) refl
  where
    go : (u : Bool) → eqb r.letter (letter_of l) ≡ u
        → (r.letter ≡ letter_of l) × (all_hold (risen p.rising next l.limits) 0 r.numbers ≡ true)
    go true e =
        let k : kind_of p.kinds r.letter ≡ some l = rw (q, e, kind_of) in
        (eqb-true r.letter (letter_of l) e, sym (row_held p next r l k) ∙ h)
    go false e =
        let k : kind_of p.kinds r.letter ≡ none = rw (q, e, kind_of) in
        absurd (true≢false (sym (rw (k, row_ok) at h)))

pub record PartHeld (p : Part) (rs : Rows) : Type 0 where
  pub many : p.least ≤ length rs
  pub few : length rs ≤ p.most
  pub held : rows_ok p 0 rs ≡ true

module _ (p : Part) (rs : Rows) where
  pub part_held : part_ok p rs ≡ true → PartHeld p rs
  unfolding part_ok
  part_held h =
      let a = both_hold (leb p.least (length rs)) (leb (length rs) p.most && rows_ok p 0 rs) h in
      let b = both_hold (leb (length rs) p.most) (rows_ok p 0 rs) a.1 in
      record { many = leb-true p.least (length rs) a.0; few = leb-true (length rs) p.most b.0; held = b.1 }

  pub held_part : p.least ≤ length rs → length rs ≤ p.most → rows_ok p 0 rs ≡ true → part_ok p rs ≡ true
  unfolding part_ok
  held_part a b c = rw (le-leb p.least (length rs) a, le-leb (length rs) p.most b, c)
