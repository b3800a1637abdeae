-- How far `drafts_ok` has come.
use Rattle.std.proofs.Common.{◌≡◌, true}
use Rattle.memory.specs.Formed.{each, draft_ok}
use Rattle.judging.proofs.drafts_ok.Given as goal

abbrev pub invariant-loop-number : goal.invariant-loop-number
invariant-loop-number l = each l.number (draft_ok l.mem) ≡ true
