-- `all_hold` meets its contract.
use Rattle.std.proofs.Common.{◌≡◌, ℕ, Bool, List, ◌∷◌, sym, ◌∙◌, arith, length, ap}
use Rattle.std.specs.Prelude.{◌&&◌}
use Rattle.std.proofs.lemmas.Iterator.{empty_from_Zip}
use Rattle.text.specs.declared.Limit.{Limit}
use Rattle.text.specs.Limit.{all_hold, holds}
use Rattle.spelling.proofs.limits.all_hold.Goals as goal

-- one number more
more : {u : Bool} {l : Limit} {n : ℕ} {ls table : List Limit} {ns numbers : List ℕ} (last : ℕ)
    → (table ≡ l ∷ ls) × (numbers ≡ n ∷ ns)
    → u ≡ holds l last n
    → all_hold table last numbers ≡ (u && all_hold ls n ns)
unfolding all_hold
more last e h = rw (e.0, e.1, h)

pub returns-then-not-may_stand : goal.returns-then-not-may_stand
returns-then-not-may_stand c =
    sym (c.loop-l.invariant.1 ∙ more c.loop-l.last c.in-Some.ensures.steps c.if-not-may_stand.ensures)

pub loop-l-preserved : goal.loop-l-preserved
loop-l-preserved c =
    let e = c.in-Some.ensures.steps in
    let m = c.loop-l.invariant.1 ∙ more c.loop-l.last e c.if-not-may_stand.ensures in
    (omega (arith, ap length e.0, ap length e.1), m)

-- no number left
pub returns : goal.returns
unfolding all_hold
returns c =
    let l = c.loop-l.l-iterator in
    let e = empty_from_Zip l c.next.new.self _ c.in-None.is c.next.ensures.steps c.loop-l.invariant.0 in
    sym (c.loop-l.invariant.1 ∙ rw (e.0, e.1, all_hold))
