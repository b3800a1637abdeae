-- `set_fitting` meets its contract.
use Rattle.std.proofs.Common.{sym}
use Rattle.answering.proofs.Sheets.{to_set}
use Rattle.answering.proofs.set_fitting.Goals as goal

pub set_fitting-requires : goal.set_fitting-requires
set_fitting-requires c =
    let draft = c.in_ok-draft.ensures in
    let free = rw (draft.found.0, draft.found.1) at c.in_ok-check_line.ensures in
    to_set _ _ (sym draft.refused) _ _ _ (sym free)
