-- Engine rows up to the end of their text, and their two columns.
use mathlib.Core.Path.{◌≡◌, refl, sym, ap, ◌∙◌}
use mathlib.Core.Bool.{false}
use mathlib.Core.List.{List, [], ◌∷◌, ◌++◌, map, map-append}
use mathlib.Core.Option.{none}
use Prim.Native.Nat.{ℕ, zero, suc, ◌-◌, ◌+◌, ◌≤◌, ◌<◌}
use native.Mathlib.Nat.{add-zero}
use native.Mathlib.Omega.{arith}
use lib.ListN.{length, drop, set, length-drop, length-map}
use lib.Seq.{sets, drop_at}
use Rattle.text.specs.Field.{begins}
use Rattle.text.specs.Line.{Line}
use Rattle.ground.specs.Lists.{put_first}
use Rattle.ground.proofs.Stores.{sets_snoc, sets_start}
use Rattle.form.specs.Parts.{letter_of, Row, Rows}
use Rattle.form.specs.Outcome.{Found, took, lost, mapped}
use Rattle.form.specs.Reading.{kind_at, read_parts}
use Rattle.form.proofs.RowsTrip.{rows_none}
use Rattle.form.proofs.Letters.{kind_away}
use Rattle.form.proofs.Pairs.{pair_line}
use Rattle.sheet.specs.Lines.{engine_line, engine_power_high, engine_weight_high, most_rows}
use Rattle.sheet.specs.EngineText.{engine_part, only_rows}
use Rattle.reading.proofs.RowsLoop.{Upto, rows_at}
use Rattle.reading.proofs.RowsLoop as loop

-- ---- rows, and the end of the text after them

abbrev pub engines_at : List ℕ → Found Rows
engines_at t = mapped only_rows (read_parts (engine_part ∷ []) t)

module _ (t : List ℕ) {at : ℕ} {rs : Rows} (e : rows_at engine_part t ≡ took at rs) where
  pub rows_last : length t ≤ at → engines_at t ≡ took at rs
  unfolding read_parts
  rows_last h = go (drop at t) refl
    where
      go : (u : List ℕ) → drop at t ≡ u → engines_at t ≡ took at rs
      go [] d = rw (e, d, add-zero at)
      go (b ∷ u) d = absurd (omega (arith, ap length d, length-drop at t))

  pub rows_before : at < length t → engines_at t ≡ lost 2 at
  unfolding read_parts
  rows_before h = go (drop at t) refl
    where
      go : (u : List ℕ) → drop at t ≡ u → engines_at t ≡ lost 2 at
      go [] d = absurd (omega (arith, ap length d, length-drop at t))
      go (b ∷ u) d = rw (e, d, add-zero at)

pub rows_lost : (t : List ℕ) {number at : ℕ} → rows_at engine_part t ≡ lost number at → engines_at t ≡ lost number at
unfolding read_parts
rows_lost t e = rw e

-- the byte by which a row is told from anything else
abbrev pub engine_letter : ℕ
engine_letter = letter_of engine_line

-- an ENG line whose power is from next on
abbrev pub engine_from : ℕ → Line
engine_from next = pair_line engine_line.tag next engine_power_high 0 engine_weight_high

-- rs are read, and the text does not go on with a row, though it goes on or a row is wanted
pub engines_away : {t : List ℕ} {rs : Rows} {count at above : ℕ} → Upto engine_part t rs count at above
    → (0 < count → at < length t)
    → begins engine_letter (drop at t) ≡ false
    → engines_at t ≡ lost 2 at
engines_away {t} {rs} {count} {at} {above} s m e = go count refl
  where
    away : kind_at engine_part.kinds (drop at t) ≡ none
    away = kind_away engine_line (drop at t) e

    go : (n : ℕ) → count ≡ n → engines_at t ≡ lost 2 at
    go zero z =
        let one : 1 - count ≡ 1 = omega arith in
        let none_here = rows_none engine_part (most_rows - count) (1 - count) above (drop at t) away in
        rows_lost t (s.so_far ∙ rw (none_here, one, add-zero at))
    go (suc n) z = rows_before t (loop.stop s (omega arith) away) (m (omega arith))

-- ---- their columns

-- a column after one row more
pub column_snoc : (of : Row → ℕ) (a₀ a : List ℕ) (rs : Rows) (r : Row) {rows : ℕ} → a ≡ sets a₀ 0 (map of rs)
    → length rs ≡ rows
    → set a rows (of r) ≡ sets a₀ 0 (map of (rs ++ (r ∷ [])))
column_snoc of a₀ a rs r {rows} e m =
    let k : rows ≡ 0 + length (map of rs) = omega (arith, length-map rs of) in
    rw (e, k, map-append of rs (r ∷ [])) (sets_snoc a₀ 0 (map of rs) (of r))

-- a column that was stored stands at the start
pub column_first : (a₀ xs : List ℕ) → length xs ≤ length a₀ → sets a₀ 0 xs ≡ put_first xs (sets a₀ 0 xs)
column_first a₀ xs h =
    let e = sets_start a₀ xs h in
    rw e (ap (λ (l : List ℕ). xs ++ l) (sym (drop_at xs (drop (length xs) a₀) (length xs) refl)))
