-- The text of a field with the byte that must end it: where it ends is told by its start, and what stands first in a
-- text that goes on after it.
use mathlib.Core.Path.{◌≡◌, refl, sym, ap, ◌∙◌}
use mathlib.Core.Bool.{true, true≢false}
use mathlib.Core.List.{List, [], ◌∷◌, ◌++◌, append-nil, append_assoc}
use Prim.Native.Nat.{ℕ}
use borrow.Author.Tests.{eq-eqb}
use lib.ListN.{length, drop}
use lib.Seq.{drop-append_seam}
use Rattle.text.specs.declared.Rule as Number
use Rattle.text.specs.Quoted.{dash}
use Rattle.text.specs.Field.{field_of, begins}
use Rattle.text.specs.Number.{digits_of}
use Rattle.text.proofs.Field.{field_stop, field_more, field_split}
use Rattle.text.proofs.NumberTrip.{field_digits, no_dash}
use Rattle.text.proofs.EntryTrip.{Ends}
use Rattle.fault.specs.Rules.{Rule, Then, Field, in_digits, as_dash, Entry}
use Rattle.fault.proofs.Rules.{Sure}

pub entry_by_lem : (rule : Number.Rule) (e : ℕ) (g : List ℕ) → Field rule g → Entry rule e (g ++ (e ∷ []))
entry_by_lem rule e g f = record { one = g; two = e ∷ []; joined = refl; by_one = f; by_two = refl }

module _ (rule : Number.Rule) (e : ℕ) (w : Ends e) where
  pub field_whole : (g r : List ℕ) → Field rule g → field_of (g ++ (e ∷ r)) ≡ g
  field_whole g r (in_digits q) = rw q.written (field_digits q.value (e ∷ r) ∙ rw (field_stop e r w, append-nil))
  field_whole g r (as_dash a z) = rw z (field_more dash (e ∷ r) refl ∙ rw (field_stop e r w))

  entry_joined : (x r : List ℕ) (p : Entry rule e x) → x ++ r ≡ p.one ++ (e ∷ r)
  entry_joined x r p =
      ap (λ (y : List ℕ). y ++ r) p.joined ∙ append_assoc p.one p.two r ∙ rw p.by_two

  pub sure_entry : Sure (Entry rule e)
  sure_entry a b u v p q s =
      let z : p.one ++ (e ∷ u) ≡ q.one ++ (e ∷ v) = sym (entry_joined a u p) ∙ s ∙ entry_joined b v q in
      let f : p.one ≡ q.one =
      sym (field_whole p.one u p.by_one) ∙ ap field_of z ∙ field_whole q.one v q.by_one in
      let d : p.one ++ (e ∷ u) ≡ p.one ++ (e ∷ v) = z ∙ rw f in
      ap (drop 1)
      (sym (drop-append_seam p.one (e ∷ u)) ∙ ap (drop (length p.one)) d ∙ drop-append_seam p.one (e ∷ v))

  module _ (S : Rule) where
    -- what the field of a text by the rules is, and that its ending byte follows
    pub opened : (u : List ℕ) → Then (Entry rule e) S u
        → Field rule (field_of u) × (begins e (drop (length (field_of u)) u) ≡ true)
    opened u p =
        let g : List ℕ = p.by_one.one in
        let x : u ≡ g ++ (e ∷ p.two) = p.joined ∙ entry_joined p.one p.two p.by_one in
        let f : field_of u ≡ g = rw x (field_whole g p.two p.by_one.by_one) in
        (rw f p.by_one.by_one, rw (f, x, drop-append_seam g (e ∷ p.two)) (eq-eqb e e refl))

    pub entered : (g r : List ℕ) → Field rule g → S r → Then (Entry rule e) S (g ++ (e ∷ r))
    entered g r f s =
        record {
          one = g ++ (e ∷ []);
          two = r;
          joined = sym (append_assoc g (e ∷ []) r);
          by_one = entry_by_lem rule e g f;
          by_two = s;
        }

    -- a text that begins with a `-` has nothing but it in its field
    pub dash_ended : (u : List ℕ) → begins dash u ≡ true → Then (Entry rule e) S u → begins e (drop 1 u) ≡ true
    dash_ended u d p = told (opened u p).0 (opened u p).1
      where
        told : Field rule (field_of u) → begins e (drop (length (field_of u)) u) ≡ true → begins e (drop 1 u) ≡ true
        told (in_digits q) b =
            let r : List ℕ = drop (length (field_of u)) u in
            let x : digits_of q.value ++ r ≡ u = rw (← q.written) (field_split u) in
            absurd (true≢false (sym d ∙ (rw x at (no_dash q.value r))))
        told (as_dash a z) b = rw z at b
