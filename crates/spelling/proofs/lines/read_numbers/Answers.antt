-- `read_numbers` meets its contract.
use mathlib.Core.Path.{◌≡◌, refl, sym, ap, ◌∙◌}
use mathlib.Core.Bool.{Bool}
use Rattle.text.specs.Read.{EntryRead, entry_told}
use Rattle.std.proofs.lemmas.List.{take_rest}
use Rattle.text.proofs.Reading.{Next, done, entry_in, fault, stop, step}
use native.Mathlib.Omega.{arith}
use Rattle.spelling.proofs.lines.read_numbers.Goals as goal
use Rattle.spelling.proofs.lines.read_numbers.Goals.{After-read_entry}

-- by whether the line stops short, and what is read
next : (c : After-read_entry) {u : Bool} {r : EntryRead}
    → c.stops_short-short.result ≡ u
    → entry_told c.read_entry.result ≡ r
    → Next c.args.table.now c.args.text.now c.loop-k.k c.loop-k.last c.loop-k.at u c.ender_read-ender.result r
next c s e =
    record {
      more = c.loop-k-test.true;
      stops = sym (simp take_rest at c.stops_short-short.ensures) ∙ s;
      ended = rw s at c.ender_read-ender.ensures;
      entry = sym (rw take_rest at c.read_entry.ensures) ∙ e;
    }

pub after-requires : goal.after-requires
after-requires c =
    let n = next (goal.at.after-requires c).After-read_entry refl (ap entry_told c.in-Err.is) in
    let h = entry_in c.loop-k.invariant n in
    omega arith

pub returns-in-Err : goal.returns-in-Err
returns-in-Err c =
    rw c.after.ensures
    (fault c.loop-k.invariant (next (goal.at.returns-in-Err c).After-read_entry refl (ap entry_told c.in-Err.is)))

pub overflow_add-at : goal.overflow_add-at
overflow_add-at c =
    let n = next (goal.at.overflow_add-at c).After-read_entry refl (ap entry_told c.in-Ok.is) in
    let h = entry_in c.loop-k.invariant n in
    omega arith

pub returns-then-short : goal.returns-then-short
returns-then-short c =
    let n = next (goal.at.returns-then-short c).After-read_entry c.if-short.true (ap entry_told c.in-Ok.is) in
    rw c.store.ensures (stop c.loop-k.invariant n)

pub loop-k-preserved : goal.loop-k-preserved
loop-k-preserved c =
    let n = next (goal.at.loop-k-preserved c).After-read_entry c.if-short.false (ap entry_told c.in-Ok.is) in
    rw c.store.ensures (step c.loop-k.invariant n)

pub returns : goal.returns
returns c = done c.loop-k.invariant c.loop-k-test.false
