-- What the code reads off the scale: M of a sheet within the limits, and none of any other. A number says the same, 0
-- for none, since no boat weighs nothing.
use mathlib.Core.Path.{◌≡◌, refl, sym, ◌∙◌}
use mathlib.Core.Bool.{true, false, not, cond}
use mathlib.Core.List.{List}
use Prim.Native.Nat.{ℕ}
use native.Mathlib.Omega.{arith}
use borrow.Author.Tests.{eqb-true, eqb-false, eq-eqb, ne_eqb}
use Rattle.std.specs.Prelude.{Option, Some, None}
use Rattle.std.specs.Option.{is_some, option_eq}
use lib.Dec.{eqb}
use Rattle.ground.proofs.Booleans.{both_hold, by_test}
use Rattle.sheet.specs.Sheet.{words_ok}
use Rattle.capacity.specs.Weights.{boat_m, weighed_ok}
use Rattle.capacity.proofs.Most.{boat_some}

eqb_turned : (m n : ℕ) → eqb m n ≡ eqb n m
eqb_turned m n =
    by_test (eqb n m) (λ t. eq-eqb m n (sym (eqb-true n m t)) ∙ sym t)
    (λ f. ne_eqb m n (λ q. eqb-false n m f (sym q)) ∙ sym f)

-- ---- a reading, and a weight that is held against it

module _ (s : List ℕ) {read : Option ℕ} (e : read ≡ cond (words_ok s) (Some (boat_m s)) None) where
  pub told_some : is_some read ≡ words_ok s
  told_some = by_test (words_ok s) (λ t. rw (e, t) refl) (λ t. rw (e, t) refl)

  pub told_held : (held : ℕ) → option_eq eqb read (Some held) ≡ weighed_ok held s
  told_held held = by_test (words_ok s) (λ t. rw (e, t) (eqb_turned (boat_m s) held)) (λ t. rw (e, t) refl)

-- the same of a number, 0 for none
module _ (s : List ℕ) {read : ℕ} (e : read ≡ cond (words_ok s) (boat_m s) 0) where
  pub read_some : not (eqb read 0) ≡ words_ok s
  read_some =
      by_test (words_ok s)
      (λ t.
      let n : eqb (boat_m s) 0 ≡ false = ne_eqb (boat_m s) 0 (λ z. omega (arith, boat_some s t)) in
      rw (e, t, n) refl)
      (λ t. rw (e, t) refl)

  pub read_held : {held : ℕ} → (held ≡ 0 → ⊥) → eqb held read ≡ weighed_ok held s
  read_held {held} n = by_test (words_ok s) (λ t. rw (e, t) refl) (λ t. rw (e, t) (ne_eqb held 0 n))

pub none_held : (s : List ℕ) {held : ℕ} → held ≡ 0 → false ≡ weighed_ok held s
none_held s z =
    by_test (words_ok s)
    (λ t. rw (z, t) (sym (ne_eqb 0 (boat_m s) (λ q. omega (arith, q, boat_some s t))))) (λ t. rw t refl)

-- ---- and back

pub record Weighed (weight : ℕ) (s : List ℕ) : Type 0 where
  pub within : words_ok s ≡ true
  pub weight_is : weight ≡ boat_m s

pub weighed : (w : ℕ) (s : List ℕ) → weighed_ok w s ≡ true → Weighed w s
weighed w s e =
    let p = both_hold (words_ok s) (eqb w (boat_m s)) e in
    record { within = p.0; weight_is = eqb-true w (boat_m s) p.1 }

pub weighed_back : {w : ℕ} {s : List ℕ} → Weighed w s → weighed_ok w s ≡ true
weighed_back {w} {s} h = rw (h.within, eq-eqb w (boat_m s) h.weight_is) refl
