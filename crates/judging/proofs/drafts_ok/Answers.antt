-- `drafts_ok` meets its contract.
use Rattle.std.proofs.Common.{◌∙◌, sym}
use Rattle.memory.proofs.Each.{each_fails}
use Rattle.judging.proofs.drafts_ok.Goals as goal

pub returns-then-not-draft_ok : goal.returns-then-not-draft_ok
returns-then-not-draft_ok c =
    sym (each_fails _ _ _ c.loop-number-test.true (sym c.draft_ok.ensures ∙ c.if-not-draft_ok.true))
