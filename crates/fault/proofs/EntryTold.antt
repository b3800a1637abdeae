-- What the reader of a field tells of it: what it takes is a field by the rules; what it refuses for its form goes
-- wrong at its place, which is in the field or at its end; what it refuses for its limit is a number outside it.
use mathlib.Core.Path.{◌≡◌, refl, sym, ap, ◌∙◌}
use mathlib.Core.Bool.{true, false, ◌&&◌}
use mathlib.Core.List.{List, ◌∷◌}
use Prim.Native.Nat.{ℕ, ◌+◌, ◌≤◌}
use native.Mathlib.Omega.{arith}
use lib.ListN.{length, drop}
use lib.Seq.{drop-drop}
use Rattle.answers.specs.Refusals.{broken_line, outside_limits}
use Rattle.ground.proofs.Booleans.{both_hold, by_test}
use Rattle.text.specs.Number.{NumberRead}
use Rattle.std.specs.Prelude.{Ok, Err}
use Rattle.text.specs.Read.{EntryRead}
use Rattle.text.specs.Read.{Number, Misread}
use Rattle.text.specs.Quoted.{dash}
use Rattle.text.specs.Field.{field_of, begins}
use Rattle.text.specs.Number.{number_of}
use Rattle.text.specs.declared.Limit.{Limit}
use Rattle.text.specs.Limit.{or_none, is_none, within}
use Rattle.text.specs.Line.{judged, read_entry, entry_text}
use Rattle.text.proofs.Field.{begins_cons, field_more, field_split}
use Rattle.text.proofs.Limits.{within_some}
use Rattle.text.proofs.NumberSteps as Steps
use Rattle.text.proofs.NumberTrip.{read_small, read_writes}
use Rattle.text.proofs.EntryTrip.{Ends, ender_ends}
use Rattle.fault.specs.Rules.{Rule, Then, Field, in_digits, as_dash, Entry}
use Rattle.fault.specs.Faulty.{Faulty}
use Rattle.fault.specs.Reached.{EndedBy, as_due, short, Outside, FieldStops, in_form, in_limit, Refusal}
use Rattle.fault.proofs.Rules.{Some}
use Rattle.fault.proofs.Stopped.{small_numeral}
use Rattle.fault.proofs.EntryPlace.{no_number, number_unended, dash_unended}

pub ended_ends : {ls : List Limit} {e : ℕ} → EndedBy ls e → Ends e
ended_ends {ls} (as_due q) = rw q (ender_ends ls)
ended_ends (short s q) = rw q refl

module _ (l : Limit) (ls : List Limit) (last e : ℕ) (t : List ℕ) (by : EndedBy ls e) (S : Rule) (some : Some S) where
  abbrev f : List ℕ
  f = field_of t

  abbrev Refused : ℕ → ℕ → Type 0
  Refused = Refusal (Then (Entry l.rule e) S) (λ n. FieldStops n l ls last) t

  abbrev Told : EntryRead → Type 0
  Told (Number n k) = Field l.rule (entry_text l n)
  Told (Misread number k) = Refused number k

  in_form_lem : (k : ℕ) → Faulty (Then (Entry l.rule e) S) t k → k ≤ length f → Refused broken_line k
  in_form_lem k p h = record { form = λ q. p; limits = in_form refl (omega arith) }

  -- ---- a `-` for none

  dash_told : (or_none l.rule && begins dash t) ≡ true → Told (Number 0 2)
  dash_told d =
      let r = (both_hold (or_none l.rule) (begins dash t) d).0 in
      let n : is_none l 0 ≡ true = rw r in
      rw n (as_dash r refl)

  dash_refused : (or_none l.rule && begins dash t) ≡ true → begins e (drop 1 t) ≡ false → Refused broken_line 1
  dash_refused d b =
      let x = begins_cons dash t (both_hold (or_none l.rule) (begins dash t) d).1 in
      let y : f ≡ dash ∷ field_of (drop 1 t) = ap field_of x ∙ field_more dash (drop 1 t) refl in
      in_form_lem 1 (dash_unended l.rule e (ended_ends by) S some t d b) (omega (arith, ap length y))

  -- ---- a number

  value_told : (n : ℕ) → number_of f ≡ Ok n → within l last n ≡ true → Told (Number n (length f + 1))
  value_told n v i = rw (within_some l last n i) (in_digits (small_numeral n (read_small f n v)))

  value_outside : (n : ℕ) → number_of f ≡ Ok n → begins e (drop (length f) t) ≡ true → within l last n ≡ false
      → Refused outside_limits 0
  value_outside n v b i =
      let x : drop (length f) t ≡ e ∷ drop (length f + 1) t =
      begins_cons e (drop (length f) t) b ∙ rw (drop-drop 1 (length f) t) in
      let y : Outside l ls last t =
      record {
        value = n;
        end = e;
        rest = drop (length f + 1) t;
        few = read_small f n v;
        ended = by;
        text = sym (field_split t) ∙ rw (x, read_writes f n v);
        outside = i;
      } in
      record { form = λ q. absurd (omega arith); limits = in_limit refl refl y }

  judged_told : (r : NumberRead) → (or_none l.rule && begins dash t) ≡ false → number_of f ≡ r
      → Told (judged r l last e (length f) (drop (length f) t))
  judged_told (Err i) d v =
      in_form_lem i (no_number l.rule e (ended_ends by) S some t d i v) (Steps.number_place f i v)
  judged_told (Ok n) d v =
      by_test (begins e (drop (length f) t))
      (λ b.
      by_test (within l last n) (λ i. rw (b, i) (value_told n v i)) (λ i. rw (b, i) (value_outside n v b i)))
      (λ b.
      rw b (in_form_lem (length f) (number_unended l.rule e (ended_ends by) S some t n v b) (omega arith)))

  -- ---- either

  told : Told (read_entry l last e t)
  unfolding read_entry
  told =
      by_test (or_none l.rule && begins dash t)
      (λ d.
      by_test (begins e (drop 1 t)) (λ b. rw (d, b) (dash_told d)) (λ b. rw (d, b) (dash_refused d b)))
      (λ d. rw d (judged_told (number_of f) d refl))

  pub entry_field : (n k : ℕ) → read_entry l last e t ≡ Number n k → Field l.rule (entry_text l n)
  entry_field n k v = rw v at told

  pub entry_refused : (number k : ℕ) → read_entry l last e t ≡ Misread number k
      → Refusal (Then (Entry l.rule e) S) (λ n. FieldStops n l ls last) t number k
  entry_refused number k v = rw v at told
