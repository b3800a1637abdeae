-- 02 (v), of the reader that a call cites: what it makes of the rows that a text says moves no place. A text too long
-- has none, and hides no text by the rules.
use mathlib.Core.Path.{◌≡◌, ap}
use mathlib.Core.Bool.{true}
use mathlib.Core.List.{List}
use Prim.Native.Nat.{ℕ, ◌≤◌, ◌<◌}
use native.Mathlib.Omega.{arith}
use lib.ListN.{length}
use Rattle.answers.specs.Refusals.{broken_line, outside_limits}
use Rattle.form.specs.Parts.{Form, Rows}
use Rattle.form.specs.Outcome.{Verdict, right, wrong, saying}
use Rattle.form.specs.Reading.{read_form}
use Rattle.form.specs.Writing.{form_ok, form_text}
use Rattle.form.proofs.Made.{well_made}
use Rattle.form.proofs.Verdict.{saying_right, saying_wrong, form_long, no_line}
use Rattle.fault.specs.Rules.{ByRules}
use Rattle.fault.specs.Faulty.{Faulty}
use Rattle.fault.proofs.Sayable.{sayable}
use Rattle.fault.proofs.Longest.{parts_longest, parts_longest_lem}
use Rattle.fault.proofs.Tellings.{FaultTold, fault_reworded, RulesTold, rules_reworded}
use Rattle.fault.proofs.Verdicts as Verdicts
use Rattle.fault.proofs.Verdicts.{refused_at, WrongAt, OutsideAt, wrong_placed, outside_placed, right_by_rules}
use Rattle.fault.proofs.Verdicts.{wrong_settled, wrong_told, right_told}

-- what t says where it is by the rules of f: rows within the limits, of which t is the text
pub record Says (f : Form) (t : List ℕ) (v : List Rows) : Type 0 where
  pub by_rules : ByRules f t
  pub within : form_ok f v ≡ true
  pub text : t ≡ form_text f v

-- the places that `read` tells are those of texts of the form f
pub record PlacesTold {A : Type 0} (f : Form) (read : List ℕ → Verdict A) : Type 0 where
  -- refused with 2, with 3, and accepted
  pub at_fault : (t : List ℕ) (line byte : ℕ) → length t ≤ f.room → read t ≡ wrong broken_line line byte
      → WrongAt f t line byte
  pub outside : (t : List ℕ) (line byte : ℕ) → length t ≤ f.room → read t ≡ wrong outside_limits line byte
      → OutsideAt f t line byte
  pub accepted : (t : List ℕ) (a : A) → read t ≡ right a → (v : List Rows) × Says f t v
  -- the other way: such a place is told so
  pub fault_settled : (t : List ℕ) (line byte : ℕ) → length t ≤ f.room → WrongAt f t line byte
      → read t ≡ wrong broken_line line byte
  pub outside_settled : (t : List ℕ) (line byte : ℕ) → length t ≤ f.room → OutsideAt f t line byte
      → read t ≡ wrong outside_limits line byte
  -- a text that goes wrong at k is told so, or a field that ended before k is outside its limits; one by the rules is
  -- accepted, or a field of it is outside its limits
  pub fault_told : (t : List ℕ) (k : ℕ) → length t ≤ f.room → Faulty (ByRules f) t k
      → FaultTold (refused_at read t) t k
  pub rules_told : (t : List ℕ) → ByRules f t → RulesTold ((a : A) × (read t ≡ right a)) (refused_at read t)
  -- too long, and line 0 then alone
  pub too_long : (t : List ℕ) → f.room < length t → read t ≡ wrong broken_line 0 0
  pub line_0 : (t : List ℕ) (number byte : ℕ) → read t ≡ wrong number 0 byte → f.room < length t

module _ {A : Type 0} (f : Form) (made : well_made f ≡ true) (said : sayable f.parts ≡ true)
    (room : parts_longest f.parts ≤ f.room) (g : List Rows → A) where
  abbrev read : List ℕ → Verdict A
  read t = saying g (read_form f t)

  reworded : (t : List ℕ) (number k : ℕ) → refused_at (read_form f) t number k → refused_at read t number k
  reworded t number k e = ap (saying g) e

  by_rules : (t : List ℕ)
      → RulesTold ((v : List Rows) × (read_form f t ≡ right v)) (refused_at (read_form f) t)
      → RulesTold ((a : A) × (read t ≡ right a)) (refused_at read t)
  by_rules t =
      rules_reworded (refused_at (read_form f) t) (refused_at read t) (reworded t)
      ((v : List Rows) × (read_form f t ≡ right v)) ((a : A) × (read t ≡ right a))
      (λ e. (g e.0, ap (saying g) e.1))

  pub places_told : PlacesTold f read
  places_told =
      record {
        at_fault = λ t line byte h e.
            wrong_placed f made said t h line byte (saying_wrong g (read_form f t) broken_line line byte e);
        outside = λ t line byte h e.
            outside_placed f made said t h line byte (saying_wrong g (read_form f t) outside_limits line byte e);
        accepted = λ t a e.
            let (v, d, is) = saying_right g (read_form f t) a e in
            let p = right_by_rules f made said t v d in
            (v, record { by_rules = p.0; within = p.1; text = p.2 });
        fault_settled = λ t line byte h w. ap (saying g) (wrong_settled f made said t h line byte w);
        outside_settled = λ t line byte h w. ap (saying g) (Verdicts.outside_settled f made said t h line byte w);
        fault_told = λ t k h p.
            fault_reworded (refused_at (read_form f) t) (refused_at read t) (reworded t) t k
            (wrong_told f made said t h k p);
        rules_told = λ t r.
            let few = parts_longest_lem f.parts t r in
            by_rules t (right_told f made said t (omega (arith, few, room)) r);
        too_long = λ t h. ap (saying g) (form_long f t h);
        line_0 = λ t number byte e. no_line f t number byte (saying_wrong g (read_form f t) number 0 byte e);
      }
