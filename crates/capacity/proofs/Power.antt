-- Plate A's power, by the case that the code finds.
use mathlib.Core.Path.{◌≡◌, refl, sym, ap, ◌∙◌}
use mathlib.Core.Bool.{Bool, true, false, ◌&&◌, cond}
use mathlib.Core.List.{List, [], ◌∷◌}
use Prim.Native.Nat.{ℕ, zero, suc, ◌-◌, ◌*◌, ◌≤◌, ◌<◌}
use native.Mathlib.Nat.{mul-le-mul}
use native.Mathlib.Omega.{arith}
use borrow.Author.Tests.{lt-ltb, le-ltb, le-leb, lt-leb, leb-true, ne_eqb}
use Rattle.ground.proofs.Booleans.{both_hold, first_fails, second_fails, either}
use lib.Dec.{eqb, leb, ltb}
use lib.ListN.{length, get_or}
use Rattle.sheet.specs.Sheet.{words_ok}
use Rattle.sheet.specs.Places.{length_at, transom_width_at}
use Rattle.capacity.specs.Words.{hull_length, transom_width, transom_height, flat_bottom, remote, outboard}
use Rattle.capacity.specs.PlateC.{row_for}
use Rattle.capacity.specs.PlateA.{factor_p, table_end, table_ends, table_watts, row_of, row_watts, before_watts}
use Rattle.capacity.specs.PlateA.{raised, formula_watts, power_a, lacks_power}
use Rattle.capacity.specs.Highs.{high_at}
use Rattle.capacity.proofs.Within.{long_most, wide_most}

-- ---- the power factor

pub factor_is : (s : List ℕ) {l w : ℕ} → l ≡ hull_length s → w ≡ transom_width s → l * w ≡ factor_p s
factor_is s a b = rw (a, b) refl

-- that of the largest hull
abbrev pub factor_most : ℕ
factor_most = high_at length_at * high_at transom_width_at

pub factor_most_lem : (s : List ℕ) → words_ok s ≡ true → factor_p s ≤ factor_most
factor_most_lem s ok = mul-le-mul {n₂ = high_at length_at} {m₂ = high_at transom_width_at} (long_most s ok) (wide_most s ok)

-- ---- the marked power, of a factor that the code has worked

module _ (s : List ℕ) {p : ℕ} (e : p ≡ factor_p s) where
  -- above the table
  pub by_remote : eqb (remote s) 1 ≡ true
      → leb 500 (transom_height s) ≡ true
      → raised (16 * p - 67000000) 1000 ≡ formula_watts s
  unfolding formula_watts
  by_remote a b = rw (e, a, b) refl

  module _ (a : (eqb (remote s) 1 && leb 500 (transom_height s)) ≡ false) where
    pub by_flat : eqb (flat_bottom s) 1 ≡ true → raised (4 * p - 11000000) 1000 ≡ formula_watts s
    unfolding formula_watts
    by_flat b = rw (e, a, b) refl

    pub by_chine : eqb (flat_bottom s) 1 ≡ false → raised (13 * p - 40000000) 2000 ≡ formula_watts s
    unfolding formula_watts
    by_chine b = rw (e, a, b) refl

  pub by_formula : eqb (outboard s) 0 ≡ false → table_end < p → formula_watts s ≡ power_a s
  unfolding power_a
  by_formula a h = rw (a, sym (ap (ltb table_end) e) ∙ lt-ltb table_end p h) refl

  -- within the table a flat bottom by the row before its own, another by its own
  pub by_row : {flat : Bool} → eqb (outboard s) 0 ≡ false → p ≤ table_end → flat ≡ eqb (flat_bottom s) 1
      → cond flat (before_watts p) (row_watts p) ≡ power_a s
  unfolding power_a
  by_row a h f = rw (a, sym (ap (ltb table_end) e) ∙ le-ltb table_end p h, f, e) refl

  pub first_row : eqb (outboard s) 1 ≡ true → eqb (flat_bottom s) 1 ≡ true → leb p 2250000 ≡ lacks_power s
  unfolding row_for
  first_row a b = simp (a, b) (rw (← e) (go (leb p 2250000) _))
    where
      go : (t : Bool) (k : ℕ) → t ≡ eqb (elim t [ true ↦ 0 | false ↦ suc k ]) 0
      go true k = refl
      go false k = sym (ne_eqb (suc k) 0 (λ z. omega arith))

pub no_outboard : (s : List ℕ) → eqb (outboard s) 0 ≡ true → 0 ≡ power_a s
unfolding power_a
no_outboard s a = rw a refl

-- ---- the row of the table

pub row_stops : (p e : ℕ) (ends : List ℕ) → p ≤ e → 0 ≡ row_for p (e ∷ ends)
unfolding row_for
row_stops p e ends h = rw (le-leb p e h, row_for) refl

pub row_skips : {k : ℕ} (p e : ℕ) (ends : List ℕ) → e < p → k ≡ row_for p ends → suc k ≡ row_for p (e ∷ ends)
unfolding row_for
row_skips p e ends h q = rw (lt-leb p e h, row_for) (ap suc q)

-- a row that reaches is not passed over
row_within : (p : ℕ) (ends : List ℕ) (k : ℕ) → k < length ends → p ≤ get_or ends k 0 → row_for p ends ≤ k
unfolding row_for
row_within p [] k h l = absurd (omega arith)
row_within p (e ∷ ends) zero h l = omega (arith, row_stops p e ends l)
row_within p (e ∷ ends) (suc k) h l = go (leb p e) (row_within p ends k (omega arith) l)
  where
    go : (t : Bool) → row_for p ends ≤ k → elim t [ true ↦ 0 | false ↦ suc (row_for p ends) ] ≤ suc k
    go true i = omega arith
    go false i = omega arith

pub row_in : (p : ℕ) → p ≤ table_end → row_of p ≤ 5
row_in p h = row_within p table_ends 5 (omega arith) h

-- ---- no power, and a power that fits 32 bits

pub inboard_powered : (s : List ℕ) → eqb (outboard s) 1 ≡ false → lacks_power s ≡ false
inboard_powered s e = first_fails _ e

pub round_powered : (s : List ℕ) → eqb (flat_bottom s) 1 ≡ false → lacks_power s ≡ false
round_powered s e = second_fails (eqb (outboard s) 1) (first_fails _ e)

-- a power that fits 32 bits with room to spare
abbrev Fitting : ℕ → Type 0
Fitting watts = watts ≤ 300000

formula_most : (s : List ℕ) → factor_p s ≤ factor_most → Fitting (formula_watts s)
unfolding formula_watts
formula_most s h =
    either Fitting (eqb (remote s) 1 && leb 500 (transom_height s)) (omega arith)
    (either Fitting (eqb (flat_bottom s) 1) (omega arith) (omega arith))

abbrev all_most : List ℕ → ℕ → Bool
all_most [] n = true
all_most (x ∷ l) n = leb x n && all_most l n

get_d_most : (l : List ℕ) (n : ℕ) → all_most l n ≡ true → (k : ℕ) → get_or l k 0 ≤ n
get_d_most [] n e k = omega arith
get_d_most (x ∷ l) n e zero = leb-true x n (both_hold (leb x n) (all_most l n) e).0
get_d_most (x ∷ l) n e (suc k) = get_d_most l n (both_hold (leb x n) (all_most l n) e).1 k

watts_most : (k : ℕ) → Fitting (get_or table_watts k 0)
watts_most = get_d_most table_watts 300000 refl

pub power_most : (s : List ℕ) → words_ok s ≡ true → power_a s ≤ 300000
unfolding power_a
power_most s b =
    either Fitting (eqb (outboard s) 0) (omega arith)
    (either Fitting (ltb table_end (factor_p s)) (formula_most s (factor_most_lem s b))
    (either Fitting (eqb (flat_bottom s) 1) (watts_most (row_of (factor_p s))) (watts_most (suc (row_of (factor_p s))))))
