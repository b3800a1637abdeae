-- 02 (v), of a whole text with its line and byte, of every form that is well made and sayable: what is refused has the
-- line and the byte of the place where it goes wrong, or of the first byte of a field outside its limits, and before
-- that place all is within the limits; the other way, a text with such a place is refused so; and what is right is by
-- the rules. All but the last are of texts of no more bytes than are read.
use mathlib.Core.Path.{◌≡◌, ap, ◌∙◌}
use mathlib.Core.Bool.{true}
use mathlib.Core.List.{List}
use Prim.Native.Nat.{ℕ, ◌≤◌}
use lib.ListN.{length}
use Rattle.answers.specs.Refusals.{broken_line, outside_limits}
use Rattle.text.specs.Place.{line_at, byte_at}
use Rattle.form.specs.Parts.{Form, Rows}
use Rattle.form.specs.Outcome.{took, lost, Verdict, right, wrong, placed}
use Rattle.form.specs.Reading.{read_parts, read_form}
use Rattle.form.specs.Writing.{form_ok, form_text}
use Rattle.form.proofs.Made.{well_made}
use Rattle.form.proofs.Verdict.{form_read, form_right, form_wrong}
use Rattle.form.proofs.Trip.{reads_written}
use Rattle.fault.specs.Rules.{ByRules}
use Rattle.fault.specs.Faulty.{Faulty}
use Rattle.fault.specs.Reached.{PartsStop}
use Rattle.fault.proofs.Sayable.{sayable}
use Rattle.fault.proofs.Ended.{Ended}
use Rattle.fault.proofs.Tellings.{Refusing, FaultTold, fault_reworded, RulesTold, rules_reworded}
use Rattle.fault.proofs.Theorems.{lost_at, parts_accepted, form_place, held_before, limit_place, limit_ended}
use Rattle.fault.proofs.Theorems.{wrong_refused, form_settled, limit_settled, right_read}

-- what the reader of a whole text says where it refuses
abbrev pub refused_at : {A : Type 0} → (List ℕ → Verdict A) → List ℕ → Refusing
refused_at read t number k = read t ≡ wrong number (line_at t k) (byte_at t k)

module _ (f : Form) (t : List ℕ) where
  -- the place of a refusal with 2: the text goes wrong there, and every field that ended before is within its limits
  pub record WrongAt (line byte : ℕ) : Type 0 where
    pub at : ℕ
    pub on_line : line ≡ line_at t at
    pub on_byte : byte ≡ byte_at t at
    pub faulty : Faulty (ByRules f) t at
    pub before : PartsStop broken_line f.parts t at

  -- the place of a refusal with 3: a field outside its limits starts there, every field before is within them, and the
  -- text up to the field's end goes by the rules
  pub record OutsideAt (line byte : ℕ) : Type 0 where
    pub at : ℕ
    pub on_line : line ≡ line_at t at
    pub on_byte : byte ≡ byte_at t at
    pub outside : PartsStop outside_limits f.parts t at
    pub ended : Ended (ByRules f) t at

module _ (f : Form) (made : well_made f ≡ true) (said : sayable f.parts ≡ true) (t : List ℕ) where
  module _ (short : length t ≤ f.room) where
    read_lost : (number k : ℕ) → read_parts f.parts t ≡ lost number k
        → read_form f t ≡ wrong number (line_at t k) (byte_at t k)
    read_lost number k e = form_read f t short ∙ ap (placed t) e

    pub wrong_placed : (line byte : ℕ) → read_form f t ≡ wrong broken_line line byte → WrongAt f t line byte
    wrong_placed line byte e =
        let p = form_wrong f t broken_line line byte short e in
        record {
          at = p.at;
          on_line = p.on_line;
          on_byte = p.on_byte;
          faulty = form_place f made said t p.at p.found;
          before = held_before f made said t p.at p.found;
        }

    pub outside_placed : (line byte : ℕ) → read_form f t ≡ wrong outside_limits line byte → OutsideAt f t line byte
    outside_placed line byte e =
        let p = form_wrong f t outside_limits line byte short e in
        record {
          at = p.at;
          on_line = p.on_line;
          on_byte = p.on_byte;
          outside = limit_place f made said t p.at p.found;
          ended = limit_ended f made said t p.at p.found;
        }

    -- what is at such a place is refused so
    pub wrong_settled : (line byte : ℕ) → WrongAt f t line byte → read_form f t ≡ wrong broken_line line byte
    wrong_settled line byte w =
        rw (w.on_line, w.on_byte)
        (read_lost broken_line w.at (form_settled f made said t w.at w.faulty w.before))

    pub outside_settled : (line byte : ℕ) → OutsideAt f t line byte → read_form f t ≡ wrong outside_limits line byte
    outside_settled line byte w =
        rw (w.on_line, w.on_byte)
        (read_lost outside_limits w.at (limit_settled f made said t w.at w.outside))

    -- a text that goes wrong at k is refused with 2 there, or with 3 at a field that ended before k
    pub wrong_told : (k : ℕ) → Faulty (ByRules f) t k → FaultTold (refused_at (read_form f) t) t k
    wrong_told k p =
        fault_reworded (lost_at f t) (refused_at (read_form f) t) read_lost t k (wrong_refused f made said t k p)

    -- a text by the rules is right, or refused with 3
    pub right_told : ByRules f t
        → RulesTold ((v : List Rows) × (read_form f t ≡ right v)) (refused_at (read_form f) t)
    right_told r =
        rules_reworded (lost_at f t) (refused_at (read_form f) t) read_lost
        ((v : List Rows) × (read_parts f.parts t ≡ took (length t) v)) ((v : List Rows) × (read_form f t ≡ right v))
        (λ e. (e.0, form_read f t short ∙ ap (placed t) e.1)) (right_read f made said t r)

  -- what is right is by the rules, and is the text of rows within their limits
  pub right_by_rules : (v : List Rows) → read_form f t ≡ right v
      → ByRules f t × (form_ok f v ≡ true) × (t ≡ form_text f v)
  right_by_rules v e =
      let (k, d) = form_right f t v e in
      let a = parts_accepted f made said t k v d in
      (a.0, a.1, (reads_written f t v e).0)
