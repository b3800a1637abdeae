-- A part of one line: its one row, and its text.
use mathlib.Core.Path.{◌≡◌, refl, ap}
use mathlib.Core.Bool.{true}
use mathlib.Core.List.{List, [], ◌∷◌, append-nil}
use mathlib.Core.Option.{some}
use Prim.Native.Nat.{ℕ}
use native.Mathlib.Omega.{arith}
use borrow.Author.Tests.{eq-eqb}
use Rattle.text.specs.Limit.{all_hold}
use Rattle.text.specs.Line.{Line, line_text}
use Rattle.ground.proofs.Booleans.{both_hold}
use Rattle.form.specs.Parts.{Rows, line_row, one_line, letter_of, kind_of}
use Rattle.form.specs.Writing.{row_ok, rows_ok, part_ok, row_text, rows_text}
use Rattle.form.proofs.Held.{row_held, only_held, part_held, held_part}

pub kind_self : (l : Line) → kind_of (l ∷ []) (letter_of l) ≡ some l
unfolding kind_of
kind_self l = rw (eq-eqb (letter_of l) (letter_of l) refl, kind_of)

-- what rows of the one line l are
pub record Single (l : Line) (rs : Rows) : Type 0 where
  pub ns : List ℕ
  pub is : rs ≡ line_row (letter_of l) ns ∷ []
  pub held : all_hold l.limits 0 ns ≡ true

pub single : (l : Line) (rs : Rows) → part_ok (one_line l) rs ≡ true → Single l rs
unfolding rows_ok
single l [] h = let many = (part_held (one_line l) [] h).many in absurd (omega arith)
single l (r ∷ q ∷ rs) h = let few = (part_held (one_line l) (r ∷ q ∷ rs) h).few in absurd (omega arith)
single l (r ∷ []) h =
    let hs = both_hold (row_ok (one_line l) 0 r) true (part_held (one_line l) (r ∷ []) h).held in
    let o = only_held (one_line l) l 0 r refl hs.0 in
    record { ns = r.numbers; is = ap (λ (b : ℕ). line_row b r.numbers ∷ []) o.0; held = o.1 }

module _ (l : Line) (ns : List ℕ) where
  pub single_ok : all_hold l.limits 0 ns ≡ true → part_ok (one_line l) (line_row (letter_of l) ns ∷ []) ≡ true
  unfolding rows_ok
  single_ok h =
      held_part (one_line l) (line_row (letter_of l) ns ∷ []) (omega arith) (omega arith)
      (rw (row_held (one_line l) 0 (line_row (letter_of l) ns) l (kind_self l), h))

  pub single_text : rows_text (l ∷ []) (line_row (letter_of l) ns ∷ []) ≡ line_text l ns
  unfolding rows_text
  single_text = rw (kind_self l, row_text) (append-nil (line_text l ns))
