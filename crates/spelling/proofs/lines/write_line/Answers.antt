-- `write_line` meets its contract.
use Rattle.text.proofs.Laid.{laid_start, laid_more, laid_left}
use Rattle.spelling.proofs.lines.write_line.Goals as goal

pub returns : goal.returns
returns c =
    laid_more (laid_start c.args.tag.now c.args.out.now _ c.write_bytes.ensures)
    (laid_left c.min-from.ensures c.write_numbers.ensures.laid)
