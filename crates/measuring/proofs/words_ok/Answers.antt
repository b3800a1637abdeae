-- `words_ok` meets its contract.
use Rattle.std.proofs.Common.{◌∙◌}
use Rattle.capacity.proofs.Scale.{told_some}
use Rattle.measuring.proofs.words_ok.Goals as goal

pub returns : goal.returns
returns c = c.is_some.ensures ∙ told_some _ c.weigh.ensures
