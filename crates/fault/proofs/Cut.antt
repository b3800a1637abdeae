-- A text cut off, and others after it: what stands of its first bytes and of its first field.
use mathlib.Core.Path.{◌≡◌, refl, sym, ap, ◌∙◌}
use mathlib.Core.Bool.{◌||◌}
use mathlib.Core.List.{List, [], ◌∷◌, ◌++◌}
use Prim.Native.Nat.{ℕ, zero, suc, ◌≤◌, ◌<◌}
use native.Mathlib.Omega.{arith}
use lib.Dec.{eqb}
use lib.ListN.{length, take, drop}
use lib.Seq.{take-append-le}
use Rattle.ground.proofs.Booleans.{by_test}
use Rattle.text.specs.Quoted.{tab, feed}
use Rattle.text.specs.Field.{field_of, begins}
use Rattle.text.proofs.Field.{field_stop, field_more, field_split}

-- a byte before the cut is the text's
pub begins_kept : (b k i : ℕ) (t v : List ℕ) → k ≤ i → i < length t
    → begins b (drop k (take (suc i) t ++ v)) ≡ begins b (drop k t)
begins_kept b zero i [] v h l = absurd (omega arith)
begins_kept b zero i (c ∷ t) v h l = refl
begins_kept b (suc k) i [] v h l = absurd (omega arith)
begins_kept b (suc k) zero (c ∷ t) v h l = absurd (omega arith)
begins_kept b (suc k) (suc i) (c ∷ t) v h l = begins_kept b k i t v (omega arith) (omega arith)

-- cut in the field, or at its end: the field goes on with the field of what follows
pub field_cut : (i : ℕ) (t v : List ℕ) → i ≤ length (field_of t) → field_of (take i t ++ v) ≡ take i t ++ field_of v
field_cut zero t v h = refl
field_cut (suc i) [] v h = refl
field_cut (suc i) (b ∷ t) v h =
    by_test (eqb b tab || eqb b feed) (λ e. absurd (omega (arith, ap length (field_stop b t e))))
    (λ e.
    let m : i ≤ length (field_of t) = omega (arith, ap length (field_more b t e)) in
    field_more b (take i t ++ v) e ∙ ap (λ (x : List ℕ). b ∷ x) (field_cut i t v m))

-- cut after the byte that ends the field: the field is the text's
pub field_past : (t v : List ℕ) → length (field_of t) < length t
    → field_of (take (suc (length (field_of t))) t ++ v) ≡ field_of t
field_past [] v h = absurd (omega arith)
field_past (b ∷ t) v h =
    by_test (eqb b tab || eqb b feed) (λ e. rw (field_stop b t e) (field_stop b v e))
    (λ e.
    let m : length (field_of t) < length t = omega (arith, ap length (field_more b t e)) in
    let u : List ℕ = take (suc (length (field_of t))) t ++ v in
    rw (field_more b t e) (field_more b u e ∙ ap (λ (x : List ℕ). b ∷ x) (field_past t v m)))

-- what is cut in the field is of the field
pub field_first : (i : ℕ) (t : List ℕ) → i ≤ length (field_of t) → take i t ≡ take i (field_of t)
field_first i t h = ap (take i) (sym (field_split t)) ∙ take-append-le i (field_of t) (drop (length (field_of t)) t) h
