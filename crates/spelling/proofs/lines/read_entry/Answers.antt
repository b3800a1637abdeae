-- `read_entry` meets its contract.
use mathlib.Core.Path.{◌≡◌, sym, ap, ◌∙◌}
use mathlib.Core.Bool.{Bool}
use lib.ListN.{length, drop}
use native.Mathlib.Omega.{arith}
use Rattle.ground.proofs.Results.{was_ok, sent}
use Rattle.ground.proofs.Stores.{rest_part}
use Rattle.std.specs.Prelude.{Err}
use Rattle.text.specs.declared.Fault.{Fault}
use Rattle.text.specs.Read.{entry_told}
use Rattle.text.specs.Number.{NumberRead}
use Rattle.text.specs.Field.{begins}
use Rattle.text.proofs.Field.{field_most}
use Rattle.text.proofs.Entry.{Dashed, Entered, dash_ended, dash_unended, no_number, unended, outside, taken}
use Rattle.spelling.proofs.lines.read_entry.Goals as goal
use Rattle.spelling.proofs.lines.read_entry.Goals.{After-read_number, After-starts-2, Then-is_dash}

-- ---- a `-` for none

dashed : (c : Then-is_dash) → Dashed c.args.l.now c.args.last c.args.ender c.args.text.now
dashed c = record { dashed = sym c.is_dash.ensures ∙ c.if-is_dash.true }

pub returns-then-starts : goal.returns-then-starts
returns-then-starts c =
    let ended = sym (rw rest_part at c.starts.ensures) ∙ c.if-starts.true in
    sym (dash_ended (dashed (goal.at.returns-then-starts c).Then-is_dash) ended)

pub returns-then-is_dash : goal.returns-then-is_dash
returns-then-is_dash c =
    let unended = sym (rw rest_part at c.starts.ensures) ∙ c.if-starts.false in
    rw c.broken.ensures (sym (dash_unended (dashed (goal.at.returns-then-is_dash c).Then-is_dash) unended))

-- ---- a field

found : (c : After-read_number) {r : NumberRead} → c.read_number.result ≡ r
    → Entered c.args.l.now c.args.last c.args.ender c.args.text.now c.find_field-f.result.now r
found c e =
    record {
      undashed = sym c.is_dash.ensures ∙ c.if-is_dash.false;
      field = c.find_field-f.ensures;
      read = sym c.read_number.ensures ∙ e;
    }

-- the field is no number: what that is mapped to goes out
pub returns-in_err-n : goal.returns-in_err-n
returns-in_err-n c =
    let k = sent _ c.map_err.ensures.cases c.from_residual.result c.in_err-n.was c.from_residual.ensures.1 in
    let gone = no_number (found (goal.at.returns-in_err-n c).After-read_number k.1) in
    rw k.2 (ap (λ (f : Fault). entry_told (Err f)) k.3 ∙ sym gone)

pub slice_bounds-starts-count-2 : goal.slice_bounds-starts-count-2
slice_bounds-starts-count-2 c = omega (arith, field_most c.args.text.now, ap length c.find_field-f.ensures)

pub slice_bounds-starts-start-2 : goal.slice_bounds-starts-start-2
slice_bounds-starts-start-2 c = omega (arith, field_most c.args.text.now, ap length c.find_field-f.ensures)

-- ---- a number

ended : (c : After-starts-2) {u : Bool} → c.starts-2.result ≡ u
    → begins c.args.ender (drop (length c.find_field-f.result.now) c.args.text.now) ≡ u
ended c e = sym (rw rest_part at c.starts-2.ensures) ∙ e

pub returns-then-not-starts : goal.returns-then-not-starts
returns-then-not-starts c =
    let at = goal.at.returns-then-not-starts c in
    let read = found at.After-read_number (was_ok _ c.map_err.ensures.cases c.in_ok-n.was) in
    rw c.broken-then-not-starts.ensures (sym (unended read (ended at.After-starts-2 c.if-not-starts.true)))

pub returns-then-not-is_within : goal.returns-then-not-is_within
returns-then-not-is_within c =
    let at = goal.at.returns-then-not-is_within c in
    let read = found at.After-read_number (was_ok _ c.map_err.ensures.cases c.in_ok-n.was) in
    let out = sym c.is_within.ensures.told ∙ c.if-not-is_within.true in
    sym (outside read (ended at.After-starts-2 c.if-not-starts.false) out)

pub returns : goal.returns
returns c =
    let at = goal.at.returns c in
    let read = found at.After-read_number (was_ok _ c.map_err.ensures.cases c.in_ok-n.was) in
    let within = sym c.is_within.ensures.told ∙ c.if-not-is_within.false in
    sym (taken read (ended at.After-starts-2 c.if-not-starts.false) within)

pub overflow_cast-result : goal.overflow_cast-result
overflow_cast-result c = omega (arith, c.is_within.ensures.narrow c.if-not-is_within.false)
