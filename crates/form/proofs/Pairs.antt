-- Rows of two numbers whose first rises, as engines are.
use mathlib.Core.Path.{◌≡◌, refl}
use mathlib.Core.Bool.{true}
use mathlib.Core.List.{List, [], ◌∷◌}
use Prim.Native.Nat.{ℕ, ◌≤◌, max}
use Rattle.text.specs.Limit.{ranging}
use Rattle.text.specs.Line.{Line}
use Rattle.text.proofs.Two.{two_numbers}
use Rattle.form.specs.Parts.{Row, line_row, rising_lines, letter_of}
use Rattle.form.specs.Writing.{row_ok}
use Rattle.form.proofs.Held.{only_held}

module _ (tag : List ℕ) (low high least most : ℕ) where
  abbrev pub pair_line : Line
  pair_line = record { tag = tag; limits = ranging low high ∷ ranging least most ∷ [] }

  abbrev pub pair_row : ℕ → ℕ → Row
  pair_row n w = line_row (letter_of pair_line) (n ∷ w ∷ [])

  -- a row of the line, its first number from next on
  pub record Pair (next : ℕ) (r : Row) : Type 0 where
    pub n : ℕ
    pub w : ℕ
    pub is : r ≡ pair_row n w
    pub n_low : next ≤ n
    pub n_high : n ≤ high
    pub w_low : least ≤ w
    pub w_high : w ≤ most

  pub pair : (few many next from : ℕ) (r : Row) → max low next ≡ from
      → row_ok (rising_lines few many pair_line) next r ≡ true
      → Pair from r
  pair few many next from r m h =
      let o = only_held (rising_lines few many pair_line) pair_line next r refl h in
      let t = two_numbers from high least most r.numbers (rw m at o.1) in
      let e = same r.letter r.numbers (t.n ∷ t.w ∷ []) o.0 t.are in
      record { n = t.n; w = t.w; is = e; n_low = t.n_low; n_high = t.n_high; w_low = t.w_low; w_high = t.w_high }
    where
      same : (b : ℕ) (ns ms : List ℕ) → b ≡ letter_of pair_line → ns ≡ ms → line_row b ns ≡ line_row (letter_of pair_line) ms
      same b ns ms e f = rw (e, f)
