-- A field with the byte that must end it, with a text by another rule after it: where it goes wrong, for each way in
-- which its form can be wrong.
use mathlib.Core.Path.{◌≡◌, refl, sym, ap, ◌∙◌}
use mathlib.Core.Bool.{true, false, ◌&&◌, true≢false}
use mathlib.Core.List.{List, [], ◌∷◌, ◌++◌, append_assoc}
use Prim.Native.Nat.{ℕ, suc, ◌<◌}
use native.Mathlib.Omega.{arith}
use lib.ListN.{length, take, drop}
use lib.Seq.{take-length}
use Rattle.ground.proofs.Booleans.{both_hold, by_less}
use Rattle.std.specs.Prelude.{Ok, Err}
use Rattle.text.specs.declared.Rule as Number
use Rattle.text.specs.Quoted.{dash}
use Rattle.text.specs.Field.{field_of, begins}
use Rattle.text.specs.Number.{number_of}
use Rattle.text.specs.Limit.{or_none}
use Rattle.text.proofs.Field.{begins_cons, begins_some, field_split, field_most}
use Rattle.text.proofs.EntryTrip.{Ends}
use Rattle.fault.specs.Rules.{Rule, Then, Numeral, Field, in_digits, as_dash, Entry}
use Rattle.fault.specs.Faulty.{Faulty}
use Rattle.fault.proofs.Rules.{Some}
use Rattle.fault.proofs.Numeral.{value_numeral, number_faulty}
use Rattle.fault.proofs.Cut.{begins_kept, field_cut, field_past, field_first}
use Rattle.fault.proofs.Entry.{opened, entered, dash_ended}

-- no number begins with the field up to its place at fault and with the byte there
number_past : (t v : List ℕ) (i : ℕ) → Faulty Numeral (field_of t) i → i < length t
    → Numeral (field_of (take (suc i) t ++ v))
    → ⊥
number_past t v i p h n =
    by_less i (length (field_of t))
    (λ k.
    let x = field_first (suc i) t k in
    p.stuck k (record { rest = field_of v; whole = rw (field_cut (suc i) t v k, x) at n }))
    (λ k.
    let j : i ≡ length (field_of t) = omega (arith, p.inside) in
    p.wrong (rw (j, field_past t v (omega arith)) at n))

module _ (rule : Number.Rule) (e : ℕ) (w : Ends e) (S : Rule) (some : Some S) (t : List ℕ) where
  -- ---- no `-` for none, and no number

  module _ (d : (or_none rule && begins dash t) ≡ false) where
    -- a text whose first byte is that of t has a number for its field
    in_digits_lem : (u : List ℕ) → begins dash u ≡ begins dash t → Field rule (field_of u) → Numeral (field_of u)
    in_digits_lem u q (in_digits n) = n
    in_digits_lem u q (as_dash a z) =
        let b : begins dash u ≡ true =
        ap (begins dash) (sym (field_split u) ∙ ap (λ (x : List ℕ). x ++ drop (length (field_of u)) u) z) in
        let c : (or_none rule && begins dash t) ≡ true = rw (a, ← q, b) in
        absurd (true≢false (sym c ∙ d))

    pub no_number : (i : ℕ) → number_of (field_of t) ≡ Err i → Faulty (Then (Entry rule e) S) t i
    no_number i v =
        let p = number_faulty (field_of t) i v in
        let g : List ℕ = take i (field_of t) ++ p.sound.rest in
        record {
          inside = omega (arith, p.inside, field_most t);
          wrong = λ x. p.wrong (in_digits_lem t refl (opened rule e w S t x).0);
          sound = record {
            rest = p.sound.rest ++ (e ∷ some.rest);
            whole =
                rw (field_first i t p.inside, ← append_assoc)
                (entered rule e w S g some.rest (in_digits p.sound.whole) some.whole);
          };
          stuck = λ h b.
              let u : List ℕ = take (suc i) t ++ b.rest in
              let q = begins_kept dash 0 i t b.rest (omega arith) h in
              number_past t b.rest i p h (in_digits_lem u q (opened rule e w S u b.whole).0);
        }

  -- ---- a number, not ended as it must be

  pub number_unended : (n : ℕ) → number_of (field_of t) ≡ Ok n
      → begins e (drop (length (field_of t)) t) ≡ false
      → Faulty (Then (Entry rule e) S) t (length (field_of t))
  number_unended n v b =
      let f : List ℕ = field_of t in
      let k : ℕ = length (field_of t) in
      record {
        inside = field_most t;
        wrong = λ x. true≢false (sym (opened rule e w S t x).1 ∙ b);
        sound = record {
          rest = e ∷ some.rest;
          whole =
              rw (field_first k t (omega arith), take-length f)
              (entered rule e w S f some.rest (in_digits (value_numeral f n v)) some.whole);
        };
        stuck = λ h x.
            let o = (opened rule e w S (take (suc k) t ++ x.rest) x.whole).1 in
            let q = rw (field_past t x.rest h, begins_kept e k k t x.rest (omega arith) h) at o in
            true≢false (sym q ∙ b);
      }

  -- ---- a `-` for none, not ended as it must be

  pub dash_unended : (or_none rule && begins dash t) ≡ true → begins e (drop 1 t) ≡ false
      → Faulty (Then (Entry rule e) S) t 1
  dash_unended d b =
      let o = both_hold (or_none rule) (begins dash t) d in
      let k : take 1 t ≡ dash ∷ [] = ap (take 1) (begins_cons dash t o.1) in
      let f : Field rule (dash ∷ []) = as_dash o.0 refl in
      record {
        inside = begins_some dash t o.1;
        wrong = λ x. true≢false (sym (dash_ended rule e w S t o.1 x) ∙ b);
        sound = record {
          rest = e ∷ some.rest;
          whole = rw k (entered rule e w S (dash ∷ []) some.rest f some.whole);
        };
        stuck = λ h x.
            let u : List ℕ = take 2 t ++ x.rest in
            let q : begins dash u ≡ true = begins_kept dash 0 1 t x.rest (omega arith) h ∙ o.1 in
            let r = begins_kept e 1 1 t x.rest (omega arith) h in
            true≢false (sym (dash_ended rule e w S u q x.whole) ∙ r ∙ b);
      }
