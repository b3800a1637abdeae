-- A field after which numbers may be left out: the byte that ends it tells whether they are, so of the two rules for
-- the rest of the line one is left.
use mathlib.Core.Path.{◌≡◌, refl}
use mathlib.Core.Bool.{true, false}
use mathlib.Core.Logic.{◌⊎◌, inl, inr}
use mathlib.Core.List.{List, [], ◌∷◌, ◌++◌}
use Prim.Native.Nat.{ℕ}
use native.Mathlib.Omega.{arith}
use lib.ListN.{length, drop}
use Rattle.ground.proofs.Booleans.{both_hold, false_true, by_test}
use Rattle.text.specs.declared.Rule as Number
use Rattle.text.specs.Quoted.{feed}
use Rattle.text.specs.Field.{field_of, begins}
use Rattle.text.specs.Number.{digits_of}
use Rattle.text.specs.declared.Limit.{Limit}
use Rattle.text.specs.Limit.{spare}
use Rattle.text.specs.Line.{ender, stops_short, read_entry}
use Rattle.text.proofs.Field.{begins_cons}
use Rattle.text.proofs.EntryTrip.{ender_ends}
use Rattle.fault.specs.Rules.{Rule, Then, in_digits, Entry, FieldsThen}
use Rattle.fault.specs.Reached.{as_due, short}
use Rattle.fault.proofs.Rules.{Some}
use Rattle.fault.proofs.Going.{some_then}
use Rattle.fault.proofs.Choice.{AgreeFrom, agree_beside}
use Rattle.fault.proofs.Stopped.{small_numeral}
use Rattle.fault.proofs.Entry.{entry_by_lem}
use Rattle.fault.proofs.EntryTold.{entry_refused}
use Rattle.fault.proofs.OtherEnd.{Comes, missed}

-- ---- there are some fields of every kind

some_entry : {rule : Number.Rule} {e : ℕ} → Some (Entry rule e)
some_entry {rule} {e} =
    let zero = in_digits (small_numeral 0 (omega arith)) in
    record { rest = digits_of 0 ++ (e ∷ []); whole = entry_by_lem rule e (digits_of 0) zero }

pub some_fields : {S : Rule} (ls : List Limit) → Some S → Some (FieldsThen ls S)
some_fields [] s = s
some_fields {S} (l ∷ ls) s =
    let z : Some (Then (Entry l.rule (ender ls)) (FieldsThen ls S)) =
    some_then some_entry.rest some_entry.whole (some_fields ls s) in
    record { rest = z.rest; whole = inl z.whole }

-- ---- which of the two rules is left

-- where a line feed ends the field no tab does
fed : (ls : List Limit) (t : List ℕ) → spare ls ≡ true → begins feed t ≡ true → begins (ender ls) t ≡ false
fed [] t s b = false_true s
fed (l ∷ ls) t s b = rw (begins_cons feed t b) refl

module _ {S : Rule} (l : Limit) (ls : List Limit) (last : ℕ) (t : List ℕ) (s : Some S) where
  abbrev Whole : Rule
  Whole = Then (Entry l.rule (ender ls)) (FieldsThen ls S)

  abbrev Short : Rule
  Short = Then (Entry l.rule feed) S

  pub agree_short : (k : ℕ) → stops_short ls t ≡ true → Comes (read_entry l last feed t) k
      → AgreeFrom Short (FieldsThen (l ∷ ls) S) t k
  agree_short k c h =
      let p = both_hold (spare ls) (begins feed (drop (length (field_of t)) t)) c in
      let b = fed ls (drop (length (field_of t)) t) p.0 p.1 in
      let m = missed l last feed (ender ls) t (ender_ends ls) b k h in
      let z = some_fields ls s in
      let r = entry_refused l ls last (ender ls) t (as_due refl) (FieldsThen ls S) z _ m.at m.read in
      agree_beside (λ x w. inr (p.0, w)) one m.soon (r.form refl)
    where
      one : (x : List ℕ) → FieldsThen (l ∷ ls) S x → Short x ⊎ Whole x
      one x (inl w) = inr w
      one x (inr (q, w)) = inl w

  pub agree_whole : (k : ℕ) → stops_short ls t ≡ false → Comes (read_entry l last (ender ls) t) k
      → AgreeFrom Whole (FieldsThen (l ∷ ls) S) t k
  agree_whole k c h =
      by_test (spare ls)
      (λ p.
      let m = missed l last (ender ls) feed t refl (rw p at c) k h in
      let r = entry_refused l ls last feed t (short p refl) S s _ m.at m.read in
      agree_beside (λ x w. inl w) one m.soon (r.form refl))
      (λ p.
      record {
        wider = λ x w. inl w;
        whole = none p t;
        begun = λ j v m n. none p _;
      })
    where
      one : (x : List ℕ) → FieldsThen (l ∷ ls) S x → Whole x ⊎ Short x
      one x (inl w) = inl w
      one x (inr (q, w)) = inr w

      none : spare ls ≡ false → (x : List ℕ) → FieldsThen (l ∷ ls) S x → Whole x
      none p x (inl w) = w
      none p x (inr (q, w)) = false_true (rw p at q)
