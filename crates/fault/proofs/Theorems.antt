-- 02 (v), of every form of text that is well made and sayable: what a refusal's place is, with 2 and with 3; and the
-- other way, that what is so of a place settles the refusal. These are of the parts as they are read, whatever the
-- text's length: that a text too long is not read, and has no place, is said in Readers.
use mathlib.Core.Path.{◌≡◌, refl, ap}
use mathlib.Core.Bool.{true}
use mathlib.Core.Logic.{◌⊎◌, inl, inr}
use mathlib.Core.List.{List}
use Prim.Native.Nat.{ℕ}
use native.Mathlib.Omega.{arith}
use lib.Dec.{leb}
use lib.ListN.{length}
use Rattle.answers.specs.Refusals.{broken_line, outside_limits}
use Rattle.ground.proofs.Booleans.{both_hold}
use Rattle.form.specs.Parts.{Form, Rows}
use Rattle.form.specs.Outcome.{Found, took, lost}
use Rattle.form.specs.Reading.{read_parts}
use Rattle.form.specs.Writing.{form_ok, form_text}
use Rattle.form.proofs.Most.{parts_most}
use Rattle.form.proofs.Made.{parts_made, well_made}
use Rattle.form.proofs.Trip.{parts_forth, parts_back}
use Rattle.form.proofs.Faults.{fault, parts_plain}
use Rattle.fault.specs.Rules.{ByRules}
use Rattle.fault.specs.Faulty.{Faulty}
use Rattle.fault.specs.Reached.{PartsStop, Refusal}
use Rattle.fault.proofs.Rules.{one_place}
use Rattle.fault.proofs.Sayable.{sayable}
use Rattle.fault.proofs.Parts.{parts_taken, parts_stop}
use Rattle.fault.proofs.Ended.{Ended, ended_before}
use Rattle.fault.proofs.PartsEnded.{parts_ended}
use Rattle.fault.proofs.PartsSettled.{parts_settled}
use Rattle.fault.proofs.RowsReach.{reached}
use Rattle.fault.proofs.PartsReach.{parts_reach}
use Rattle.fault.proofs.Tellings as Tellings
use Rattle.fault.proofs.Tellings.{Refusing, FaultTold, there, sooner, RulesTold}

-- what the reader of parts says where it refuses
abbrev pub lost_at : Form → List ℕ → Refusing
lost_at f t number k = read_parts f.parts t ≡ lost number k

module _ (f : Form) (made : well_made f ≡ true) (said : sayable f.parts ≡ true) where
  parts_made_lem : parts_made f.parts ≡ true
  unfolding well_made
  parts_made_lem = (both_hold (parts_made f.parts) (leb (parts_most f.parts) f.room) made).0

  -- ---- what the reader says of a text

  pub parts_refused : (t : List ℕ) (number k : ℕ) → read_parts f.parts t ≡ lost number k
      → Refusal (ByRules f) (λ n. PartsStop n f.parts) t number k
  parts_refused t number k e = parts_stop f.parts t number k parts_made_lem said e

  -- what is accepted is by the rules, and says rows within the limits
  pub parts_accepted : (t : List ℕ) (k : ℕ) (v : List Rows) → read_parts f.parts t ≡ took k v
      → ByRules f t × (form_ok f v ≡ true)
  parts_accepted t k v e =
      (parts_taken f.parts t k v parts_made_lem said e, (parts_back f.parts t k v e).within)

  -- refused with 2: the text goes wrong at the place, by the rules
  pub form_place : (t : List ℕ) (k : ℕ) → read_parts f.parts t ≡ lost broken_line k → Faulty (ByRules f) t k
  form_place t k e = (parts_refused t broken_line k e).form refl

  -- and every field that ended before it is within its limits
  pub held_before : (t : List ℕ) (k : ℕ) → read_parts f.parts t ≡ lost broken_line k
      → PartsStop broken_line f.parts t k
  held_before t k e = (parts_refused t broken_line k e).limits

  -- refused with 3: the place is the first byte of a field that with its end is by the rules and is outside its limits,
  -- and every field before it is within them
  pub limit_place : (t : List ℕ) (k : ℕ) → read_parts f.parts t ≡ lost outside_limits k
      → PartsStop outside_limits f.parts t k
  limit_place t k e = (parts_refused t outside_limits k e).limits

  -- and some text by the rules begins with the text up to that field's end: nothing before is at fault
  pub limit_ended : (t : List ℕ) (k : ℕ) → read_parts f.parts t ≡ lost outside_limits k → Ended (ByRules f) t k
  limit_ended t k e = parts_ended f.parts t k parts_made_lem said e

  -- ---- what a text is settles what the reader says

  data Told (t : List ℕ) : Type 0 where
    accepted : (k : ℕ) (v : List Rows) → read_parts f.parts t ≡ took k v → Told t
    broken : (k : ℕ) → read_parts f.parts t ≡ lost broken_line k → Told t
    outside : (k : ℕ) → read_parts f.parts t ≡ lost outside_limits k → Told t

  told : (t : List ℕ) → Told t
  told t = go (read_parts f.parts t) refl
    where
      by : (number k : ℕ) → read_parts f.parts t ≡ lost number k → (number ≡ 2) ⊎ (number ≡ 3) → Told t
      by number k e (inl q) = broken k (rw q at e)
      by number k e (inr q) = outside k (rw q at e)

      go : (r : Found (List Rows)) → read_parts f.parts t ≡ r → Told t
      go (took k v) e = accepted k v e
      go (lost number k) e = by number k e (fault (read_parts f.parts t) number k (parts_plain f.parts t) e)

  -- a text that goes wrong at k is refused with 2 at k, or with 3 at a field that ended before k
  pub wrong_refused : (t : List ℕ) (k : ℕ) → Faulty (ByRules f) t k → FaultTold (lost_at f t) t k
  wrong_refused t k p = go (told t)
    where
      go : Told t → FaultTold (lost_at f t) t k
      go (accepted j v e) = absurd (p.wrong (parts_accepted t j v e).0)
      go (broken j e) = there (rw (one_place (form_place t j e) p) at e)
      go (outside j e) = sooner j e (ended_before (limit_ended t j e) p)

  -- a text that goes wrong at k, and in which every field that ended before k is within its limits, is refused with 2
  -- there
  pub form_settled : (t : List ℕ) (k : ℕ) → Faulty (ByRules f) t k → PartsStop broken_line f.parts t k
      → read_parts f.parts t ≡ lost broken_line k
  form_settled t k p s = go (wrong_refused t k p)
    where
      go : FaultTold (lost_at f t) t k → read_parts f.parts t ≡ lost broken_line k
      go (there e) = e
      go (sooner j e h) =
          absurd (omega (arith, parts_reach f.parts t k j parts_made_lem s (omega (arith, ap reached e))))

  -- a text that has at k a number outside its limits, and before k every one within them, is refused with 3 there
  pub limit_settled : (t : List ℕ) (k : ℕ) → PartsStop outside_limits f.parts t k
      → read_parts f.parts t ≡ lost outside_limits k
  limit_settled t k s = parts_settled f.parts t k parts_made_lem s

  -- a text by the rules is read to its end, or refused with 3
  pub right_read : (t : List ℕ) → ByRules f t
      → RulesTold ((v : List Rows) × (read_parts f.parts t ≡ took (length t) v)) (lost_at f t)
  right_read t r = go (told t)
    where
      go : Told t → RulesTold ((v : List Rows) × (read_parts f.parts t ≡ took (length t) v)) (lost_at f t)
      go (accepted j v e) = Tellings.accepted (v, rw (parts_back f.parts t j v e).count at e)
      go (broken j e) = absurd ((form_place t j e).wrong r)
      go (outside j e) = Tellings.outside j e

  -- the text of whatever rows are within the limits is by the rules
  pub written_by_rules : (v : List Rows) → form_ok f v ≡ true → ByRules f (form_text f v)
  written_by_rules v h =
      (parts_accepted (form_text f v) (length (form_text f v)) v (parts_forth f.parts v parts_made_lem h)).0
