-- `read_parts` meets its contract.
use Rattle.reading.proofs.SheetCall.{words_zeros, words_read}
use Rattle.reading.proofs.sheets.read_parts.Goals as goal

pub read_rest-requires : goal.read_rest-requires
read_rest-requires c = words_zeros c.args.text.now c.in_ok-at.ensures

pub returns : goal.returns
returns c = rw c.told_after.ensures (words_read c.args.text.now c.in_ok-at.ensures c.read_rest.ensures)
