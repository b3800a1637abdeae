-- `hulls_ok` meets its contract.
use Rattle.std.proofs.Common.{◌∙◌, sym}
use Rattle.memory.proofs.Each.{each_fails}
use Rattle.judging.proofs.hulls_ok.Goals as goal

pub returns-then-not-hull_ok : goal.returns-then-not-hull_ok
returns-then-not-hull_ok c =
    sym (each_fails _ _ _ c.loop-number-test.true (sym c.hull_ok.ensures ∙ c.if-not-hull_ok.true))
