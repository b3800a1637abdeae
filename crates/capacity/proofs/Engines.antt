-- Engine rows, row by row as the code walks them, and the engine's weight.
use mathlib.Core.Path.{◌≡◌, refl, sym, ◌∙◌}
use mathlib.Core.Bool.{Bool, true, false, ◌&&◌}
use mathlib.Core.List.{List}
use Prim.Native.Nat.{ℕ, suc, ◌+◌, ◌≤◌, ◌<◌}
use native.Mathlib.Omega.{arith}
use borrow.Author.Tests.{lt-ltb, leb-true, le-leb, lt-leb, eq-eqb, ne_eqb}
use lib.Dec.{eqb, leb}
use lib.ListN.{length, get_or, drop, drop_of_length-le, get_or-eq_default}
use Rattle.ground.proofs.Booleans.{both_hold}
use Rattle.ground.proofs.Stores.{drop_more}
use Rattle.sheet.specs.Lines.{engine_power_high, most_rows}
use Rattle.capacity.specs.Words.{outboard, declared}
use Rattle.capacity.specs.PlateC.{row_fits, rising, least_rows, rows_right, wants_row, row_for, lacks_row, engine_weight}

-- ---- rows that rise, by what the code has found of a row

-- a row that fits has a power that the next may be above
pub fits_low : (next p w : ℕ) {fits : Bool} → fits ≡ row_fits next p w → fits ≡ true → p ≤ engine_power_high
fits_low next p w e f =
    let high = (both_hold (leb next p) _ (sym e ∙ f)).1 in
    leb-true p engine_power_high (both_hold (leb p engine_power_high) _ high).0

module _ (ps ws : List ℕ) (i next : ℕ) (h : i < length ps) (k : i < length ws) {fits : Bool}
    (e : fits ≡ row_fits next (get_or ps i 0) (get_or ws i 0)) where
  pub rise_more : fits ≡ true
      → rising next (drop i ps) (drop i ws) ≡ rising (get_or ps i 0 + 1) (drop (i + 1) ps) (drop (i + 1) ws)
  unfolding rising
  rise_more f = rw (drop_more ps i h, drop_more ws i k, sym e ∙ f) refl

  pub rise_fails : fits ≡ false → rising next (drop i ps) (drop i ws) ≡ false
  unfolding rising
  rise_fails f = rw (drop_more ps i h, drop_more ws i k, sym e ∙ f) refl

pub rise_done : (ps ws : List ℕ) (i next : ℕ)
    → length ps ≤ i
    → length ws ≤ i
    → rising next (drop i ps) (drop i ws) ≡ true
unfolding rising
rise_done ps ws i next h k = rw (drop_of_length-le ps {i = i} h, drop_of_length-le ws {i = i} k) refl

pub rows_uneven : (ps ws : List ℕ) → (length ps ≡ length ws → ⊥) → false ≡ rows_right ps ws
unfolding rows_right
rows_uneven ps ws h = rw (ne_eqb (length ps) (length ws) h) refl

pub rows_none : (ps ws : List ℕ) → length ps < least_rows → false ≡ rows_right ps ws
unfolding rows_right
rows_none ps ws h = go (eqb (length ps) (length ws))
  where
    go : (t : Bool) → false ≡ (t && (leb least_rows (length ps) && (leb (length ps) most_rows && rising 1 ps ws)))
    go true = rw (lt-leb least_rows (length ps) h) refl
    go false = refl

pub rows_many : (ps ws : List ℕ) → least_rows ≤ length ps → most_rows < length ps → false ≡ rows_right ps ws
unfolding rows_right
rows_many ps ws k h = go (eqb (length ps) (length ws))
  where
    go : (t : Bool) → false ≡ (t && (leb least_rows (length ps) && (leb (length ps) most_rows && rising 1 ps ws)))
    go true = rw (le-leb least_rows (length ps) k, lt-leb (length ps) most_rows h) refl
    go false = refl

pub rows_judged : (ps ws : List ℕ)
    → length ps ≡ length ws
    → least_rows ≤ length ps
    → length ps ≤ most_rows
    → rising 1 ps ws ≡ rows_right ps ws
unfolding rows_right
rows_judged ps ws e h k =
    rw (eq-eqb (length ps) (length ws) e, le-leb least_rows (length ps) h, le-leb (length ps) most_rows k) refl

-- ---- the first row that reaches

pub row_here : (power : ℕ) (ps : List ℕ) (i : ℕ) → i < length ps → power ≤ get_or ps i 0 → row_for power (drop i ps) ≡ 0
unfolding row_for
row_here power ps i h k = rw (drop_more ps i h, le-leb power (get_or ps i 0) k, row_for) refl

pub row_further : (power : ℕ) (ps : List ℕ) (i : ℕ)
    → i < length ps
    → get_or ps i 0 < power
    → row_for power (drop i ps) ≡ suc (row_for power (drop (i + 1) ps))
unfolding row_for
row_further power ps i h k = rw (drop_more ps i h, lt-leb power (get_or ps i 0) k, row_for) refl

pub row_past : (power : ℕ) (ps : List ℕ) (i : ℕ) → length ps ≤ i → row_for power (drop i ps) ≡ 0
unfolding row_for
row_past power ps i h = rw (drop_of_length-le ps {i = i} h) refl

-- ---- the engine's weight

-- an engine is weighed for an outboard declared above 0 W, and for no other boat
pub row_due : (s : List ℕ) → eqb (outboard s) 1 ≡ true → 0 < declared s → wants_row s ≡ true
row_due s e h = rw e (omega (arith, lt-ltb, le-leb))

pub inboard_rowless : (s : List ℕ) → eqb (outboard s) 1 ≡ false → wants_row s ≡ false
inboard_rowless s e = rw e refl

pub idle_rowless : (s : List ℕ) → declared s ≡ 0 → wants_row s ≡ false
idle_rowless s e = rw e (go (eqb (outboard s) 1))
  where
    go : (t : Bool) → (t && false) ≡ false
    go true = refl
    go false = refl

pub row_unwanted : (s ps : List ℕ) → wants_row s ≡ false → false ≡ lacks_row s ps
unfolding lacks_row
row_unwanted s ps e = rw e refl

pub row_wanted : (s ps : List ℕ) {d : ℕ} {row : ℕ}
    → wants_row s ≡ true
    → d ≡ declared s
    → row ≡ row_for d ps
    → leb (length ps) row ≡ lacks_row s ps
unfolding lacks_row
row_wanted s ps e f g = rw (e, g, f) refl

pub weight_unwanted : (s ps ws : List ℕ) → wants_row s ≡ false → 0 ≡ engine_weight s ps ws
unfolding engine_weight
weight_unwanted s ps ws e = rw e refl

pub weight_wanted : (s ps ws : List ℕ) {d : ℕ} {row : ℕ}
    → wants_row s ≡ true
    → d ≡ declared s
    → row ≡ row_for d ps
    → get_or ws row 0 ≡ engine_weight s ps ws
unfolding engine_weight
weight_wanted s ps ws e f g = rw (e, g, f) refl

pub weight_past : (s ps ws : List ℕ) {d : ℕ} {row : ℕ}
    → wants_row s ≡ true
    → d ≡ declared s
    → row ≡ row_for d ps
    → length ws ≤ row
    → 0 ≡ engine_weight s ps ws
weight_past s ps ws {row = row} e f g h = sym (get_or-eq_default ws 0 {n = row} h) ∙ weight_wanted s ps ws e f g
