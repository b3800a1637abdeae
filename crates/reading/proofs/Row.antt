-- A line that was read, and a row.
use mathlib.Core.Path.{◌≡◌, refl, sym, ap, ◌∙◌}
use mathlib.Core.Bool.{true}
use mathlib.Core.List.{List, [], ◌∷◌}
use Prim.Native.Nat.{ℕ, suc, ◌≤◌, ◌<◌}
use native.Mathlib.Omega.{arith}
use lib.ListN.{length, get_or, set}
use lib.Seq.{sets, get_or-set_other}
use Rattle.text.specs.Read.{LineRead}
use Rattle.text.specs.Read.{Taken, Fault}
use Rattle.text.specs.declared.Limit.{Limit}
use Rattle.text.specs.Limit.{ranging, holds, all_hold}
use Rattle.text.specs.Line.{Line, Reads, read_line}
use Rattle.ground.proofs.Booleans.{both_hold, false_true}
use Rattle.text.proofs.Limits.{full, hold_length}
use Rattle.text.proofs.Bounds.{ranging_between}
use Rattle.text.proofs.Line.{extent, line_extent}
use Rattle.text.proofs.LineTrip.{line_back}
use Rattle.form.specs.Parts.{Rows, one_line, numbers_of}
use Rattle.form.specs.Outcome.{Found, took, lost, outcome, mapped}
use Rattle.form.specs.Reading.{read_rows}
use Rattle.form.proofs.OneLine.{one_agree}
use Rattle.form.proofs.Chain.{lost_not_found}
use Rattle.reading.specs.Rows.{RowRead}
use Rattle.reading.specs.Rows.{Numbers, NoRow}
use Rattle.reading.specs.Rows.{row_as, RowOf}

-- a line that was read gave a number for each limit, where none may be left out
pub line_count : (l : Line) (t : List ℕ) {k : ℕ} → full l.limits ≡ true → (read_line l t).ended ≡ Taken k
    → length (read_line l t).numbers ≡ length l.limits
line_count l t {k} f e = hold_length l.limits 0 (read_line l t).numbers f (line_back l t k e).held

-- a part of one line is read as the line is
module _ (l : Line) (t : List ℕ) (h : 0 < length l.tag) where
  pub one_taken : {k : ℕ} → (read_line l t).ended ≡ Taken k
      → (rs : Rows) × (read_rows (one_line l) 1 1 0 t ≡ took k rs) × (numbers_of rs ≡ (read_line l t).numbers)
  one_taken {k} e = go (read_rows (one_line l) 1 1 0 t) refl (rw e at (one_agree l t h))
    where
      go : (q : Found Rows) → read_rows (one_line l) 1 1 0 t ≡ q → took k (read_line l t).numbers ≡ mapped numbers_of q
          → (rs : Rows) × (read_rows (one_line l) 1 1 0 t ≡ took k rs) × (numbers_of rs ≡ (read_line l t).numbers)
      go (took j rs) d c = (rs, d ∙ cc, cc)
      go (lost m i) d c = absurd (lost_not_found (sym c))

  pub one_lost : {number at : ℕ} → (read_line l t).ended ≡ Fault number at
      → read_rows (one_line l) 1 1 0 t ≡ lost number at
  one_lost {number} {at} e = go (read_rows (one_line l) 1 1 0 t) refl (rw e at (one_agree l t h))
    where
      go : (q : Found Rows) → read_rows (one_line l) 1 1 0 t ≡ q → lost number at ≡ mapped numbers_of q
          → read_rows (one_line l) 1 1 0 t ≡ lost number at
      go (took j rs) d c = absurd (lost_not_found c)
      go (lost m i) d c = d ∙ cc

-- ---- a row

-- stores leave what stands before them
kept_below : (l xs : List ℕ) (i k : ℕ) → k < i → get_or (sets l i xs) k 0 ≡ get_or l k 0
kept_below l [] i k h = refl
kept_below l (x ∷ xs) i k h =
    kept_below (set l i x) xs (suc i) k (omega arith) ∙ get_or-set_other l i k x 0 (λ e. omega arith)

-- what stands in the row of the code, where ns were stored
three : (ns : List ℕ) (k : ℕ) →
    let o = sets (0 ∷ 0 ∷ 1 ∷ []) 0 ns in
    Numbers (get_or o 0 0) (get_or o 1 0) (get_or o 2 0) k ≡ row_as (took k ns)
three [] k = refl
three (a ∷ []) k = refl
three (a ∷ b ∷ []) k = refl
three (a ∷ b ∷ c ∷ ns) k =
    let l : List ℕ = a ∷ b ∷ c ∷ [] in
    rw (
      kept_below l ns 3 0 (omega arith),
      kept_below l ns 3 1 (omega arith),
      kept_below l ns 3 2 (omega arith),
    )

module _ (l : Line) (t : List ℕ) {o₀ o : List ℕ} where
  pub row_fault : {number at : ℕ} → Reads (read_line l t) o₀ (Fault number at) o → RowOf l t (NoRow number at)
  row_fault p =
      let e = sym p.answer in
      record { found = rw e; within = omega (arith, ap extent e, line_extent l t) }

  pub row_read : {k : ℕ} → o₀ ≡ 0 ∷ 0 ∷ 1 ∷ [] → Reads (read_line l t) o₀ (Taken k) o
      → RowOf l t (Numbers (get_or o 0 0) (get_or o 1 0) (get_or o 2 0) k)
  row_read {k} z p =
      let e = sym p.answer in
      record {
        found = rw (e, p.stored, z) (three (read_line l t).numbers k);
        within = omega (arith, ap extent e, line_extent l t);
      }

-- ---- by what the code has of it

pub row_lost : (l : Line) (t : List ℕ) {r : RowRead} {number at : ℕ} → RowOf l t r → r ≡ NoRow number at
    → outcome (read_line l t) ≡ lost number at
row_lost l t {number = number} {at} p v = go (outcome (read_line l t)) refl (sym v ∙ p.found)
  where
    go : (f : Found (List ℕ)) → outcome (read_line l t) ≡ f → NoRow number at ≡ row_as f
        → outcome (read_line l t) ≡ lost number at
    go (took k ns) e q = let z : ◌≡◌ {A = ℕ} 0 1 = cc in absurd (omega arith)
    go (lost m i) e q = e ∙ cc

-- its numbers ns, within the limits
pub record Rowed (l : Line) (t : List ℕ) (a b c k : ℕ) : Type 0 where
  pub ns : List ℕ
  pub found : outcome (read_line l t) ≡ took k ns
  pub held : all_hold l.limits 0 ns ≡ true
  pub first : a ≡ get_or ns 0 0
  pub second : b ≡ get_or ns 1 0
  pub third : c ≡ get_or ns 2 1

pub rowed : (l : Line) (t : List ℕ) {r : RowRead} {a b c k : ℕ} → RowOf l t r → r ≡ Numbers a b c k → Rowed l t a b c k
rowed l t {a = a} {b} {c} {k} p v = go (read_line l t).ended refl (sym v ∙ p.found)
  where
    go : (r : LineRead) → (read_line l t).ended ≡ r → Numbers a b c k ≡ row_as (outcome (read_line l t))
        → Rowed l t a b c k
    go (Taken j) e q =
        let d : Numbers a b c k ≡ row_as (took j (read_line l t).numbers) = rw e at q in
        let z : j ≡ k = cc in
        record {
          ns = (read_line l t).numbers;
          found = rw (e, z);
          held = (line_back l t j e).held;
          first = cc;
          second = cc;
          third = cc;
        }
    go (Fault number at) e q =
        let d : Numbers a b c k ≡ NoRow number at = rw e at q in
        let z : ◌≡◌ {A = ℕ} 0 1 = cc in
        absurd (omega arith)

-- the first number of a row, and its limit
pub first_in : (low high : ℕ) (ls : List Limit) (ns : List ℕ) → all_hold (ranging low high ∷ ls) 0 ns ≡ true
    → (low ≤ get_or ns 0 0) × (get_or ns 0 0 ≤ high)
unfolding all_hold
first_in low high ls [] h = false_true h
first_in low high ls (n ∷ ns) h =
    let b = ranging_between low high 0 n (both_hold (holds (ranging low high) 0 n) (all_hold ls n ns) h).0 in
    (b.least, b.most)
