-- Plate A's power from hull to hull of one rig: it never falls as P grows, and a flat bottom never has more than
-- another. 02 (ii).
use mathlib.Core.Path.{◌≡◌, refl, sym, ◌∙◌}
use mathlib.Core.Bool.{Bool, true, false, ◌&&◌, cond, false≢true}
use mathlib.Core.List.{List, [], ◌∷◌}
use Prim.Native.Nat.{ℕ, zero, suc, ◌≤◌, ◌<◌}
use native.Mathlib.Omega.{arith}
use borrow.Author.Tests.{leb-true, le-leb, ltb-true, ltb-false}
use lib.Dec.{eqb, leb, ltb}
use lib.ListN.{length, get_or}
use Rattle.ground.proofs.Booleans.{both_hold, either}
use Rattle.capacity.specs.Words.{transom_height, flat_bottom, remote, outboard}
use Rattle.capacity.specs.PlateC.{row_for}
use Rattle.capacity.specs.PlateA.{factor_p, table_end, table_ends, table_watts, row_of, row_watts, before_watts}
use Rattle.capacity.specs.PlateA.{listed_watts, formula_watts, power_a}
use Rattle.capacity.proofs.Power.{row_in}

-- ---- choices

-- by one test on both sides
by_one_test : (u : Bool) {a b c d : ℕ} → a ≤ c → b ≤ d → cond u a b ≤ cond u c d
by_one_test true h k = h
by_one_test false h k = k

-- by two tests, of which the right one holds only where the left one does
crossed : (u v : Bool) {a b c d : ℕ} → (v ≡ true → u ≡ true) → a ≤ c → a ≤ d → b ≤ d → cond u a b ≤ cond v c d
crossed true true e h k l = h
crossed true false e h k l = k
crossed false true e h k l = absurd (false≢true (e refl))
crossed false false e h k l = l

-- ---- the table never falls

-- the row does not, as P grows
row_grows : (p q : ℕ) (ends : List ℕ) → p ≤ q → row_for p ends ≤ row_for q ends
unfolding row_for
row_grows p q [] h = omega arith
row_grows p q (e ∷ ends) h = go (leb p e) (leb q e) refl refl (row_grows p q ends h)
  where
    go : (u v : Bool)
        → leb p e ≡ u
        → leb q e ≡ v
        → row_for p ends ≤ row_for q ends
        → elim u [ true ↦ 0 | false ↦ suc (row_for p ends) ] ≤ elim v [ true ↦ 0 | false ↦ suc (row_for q ends) ]
    go true v a b i = omega arith
    go false true a b i = absurd (false≢true (sym a ∙ le-leb p e (omega (arith, h, leb-true q e b))))
    go false false a b i = omega arith

-- nor do the watts, from row to row
rising_from : ℕ → List ℕ → Bool
rising_from low [] = true
rising_from low (x ∷ l) = leb low x && rising_from x l

above_low : (low : ℕ) (l : List ℕ) → rising_from low l ≡ true → (k : ℕ) → k < length l → low ≤ get_or l k 0
unfolding rising_from
above_low low [] e k h = absurd (omega arith)
above_low low (x ∷ l) e zero h = leb-true low x (both_hold (leb low x) (rising_from x l) e).0
above_low low (x ∷ l) e (suc k) h =
    let step = leb-true low x (both_hold (leb low x) (rising_from x l) e).0 in
    omega (arith, step, above_low x l (both_hold (leb low x) (rising_from x l) e).1 k (omega arith))

place_grows : (low : ℕ) (l : List ℕ)
    → rising_from low l ≡ true
    → (j k : ℕ)
    → j ≤ k
    → k < length l
    → get_or l j 0 ≤ get_or l k 0
unfolding rising_from
place_grows low [] e j k g h = absurd (omega arith)
place_grows low (x ∷ l) e zero zero g h = omega arith
place_grows low (x ∷ l) e zero (suc k) g h =
    above_low x l (both_hold (leb low x) (rising_from x l) e).1 k (omega arith)
place_grows low (x ∷ l) e (suc j) zero g h = absurd (omega arith)
place_grows low (x ∷ l) e (suc j) (suc k) g h =
    place_grows x l (both_hold (leb low x) (rising_from x l) e).1 j k (omega arith) (omega arith)

pub watts_grow : (j k : ℕ) → j ≤ k → k ≤ 6 → get_or table_watts j 0 ≤ get_or table_watts k 0
unfolding rising_from
watts_grow j k g h = place_grows 0 table_watts refl j k g (omega arith)

-- ---- two hulls of one rig: drive, steering and transom height

pub record OneRig (s t : List ℕ) : Type 0 where
  pub drive : outboard s ≡ outboard t
  pub steering : remote s ≡ remote t
  pub transom : transom_height s ≡ transom_height t

-- s is flat wherever t is
abbrev pub Flatter : List ℕ → List ℕ → Type 0
Flatter s t = eqb (flat_bottom t) 1 ≡ true → eqb (flat_bottom s) 1 ≡ true

both_in_table : (s t : List ℕ)
    → Flatter s t
    → factor_p s ≤ factor_p t
    → factor_p t ≤ table_end
    → listed_watts s ≤ listed_watts t
both_in_table s t f h k =
    let a = row_of (factor_p s) in
    let b = row_of (factor_p t) in
    let grows = row_grows (factor_p s) (factor_p t) table_ends h in
    let within = row_in (factor_p t) k in
    crossed (eqb (flat_bottom s) 1) (eqb (flat_bottom t) 1) f (watts_grow a b grows (omega arith))
    (watts_grow a (suc b) (omega arith) (omega arith)) (watts_grow (suc a) (suc b) (omega arith) (omega arith))

both_above : (s t : List ℕ)
    → OneRig s t
    → Flatter s t
    → factor_p s ≤ factor_p t
    → table_end < factor_p s
    → formula_watts s ≤ formula_watts t
unfolding formula_watts
both_above s t r f h k =
    rw (r.steering, r.transom)
    (by_one_test (eqb (remote t) 1 && leb 500 (transom_height t)) (omega arith)
    (crossed (eqb (flat_bottom s) 1) (eqb (flat_bottom t) 1) f (omega arith) (omega arith) (omega arith)))

-- the last row but one is below every formula, and the last below those of the bottoms that it is for
across : (s t : List ℕ) → Flatter s t → factor_p s ≤ table_end → table_end < factor_p t → listed_watts s ≤ formula_watts t
unfolding formula_watts
across s t f h k =
    let within = row_in (factor_p s) h in
    let before : before_watts (factor_p s) ≤ 7500 = watts_grow (row_of (factor_p s)) 5 (omega arith) (omega arith) in
    let own : row_watts (factor_p s) ≤ 12000 = watts_grow (suc (row_of (factor_p s))) 6 (omega arith) (omega arith) in
    let most : listed_watts s
    ≤ 12000 = either (λ (w : ℕ). w ≤ 12000) (eqb (flat_bottom s) 1) (omega arith) (omega arith) in
    either (λ (w : ℕ). listed_watts s ≤ w) (eqb (remote t) 1 && leb 500 (transom_height t)) (omega arith)
    (crossed (eqb (flat_bottom s) 1) (eqb (flat_bottom t) 1) f (omega arith) (omega arith) (omega arith))

-- neither a greater P nor a bottom that is not flat brings a lesser power
pub power_order : (s t : List ℕ) → OneRig s t → Flatter s t → factor_p s ≤ factor_p t → power_a s ≤ power_a t
unfolding power_a
power_order s t r f h =
    rw r.drive
    (by_one_test (eqb (outboard t) 0) (omega arith)
    (go (ltb table_end (factor_p s)) (ltb table_end (factor_p t)) refl refl))
  where
    go : (u v : Bool)
        → ltb table_end (factor_p s) ≡ u
        → ltb table_end (factor_p t) ≡ v
        → cond u (formula_watts s) (listed_watts s) ≤ cond v (formula_watts t) (listed_watts t)
    go true true a b = both_above s t r f h (ltb-true _ _ a)
    go true false a b = absurd (omega (arith, h, ltb-true table_end (factor_p s) a, ltb-false table_end (factor_p t) b))
    go false true a b = across s t f (ltb-false _ _ a) (ltb-true _ _ b)
    go false false a b = both_in_table s t f h (ltb-false _ _ b)
