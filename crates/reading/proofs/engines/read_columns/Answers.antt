-- `read_columns` meets its contract.
use Rattle.reading.proofs.EnginesCall.{heard_long, heard_wrong, heard_whole}
use Rattle.reading.proofs.engines.read_columns.Goals as goal

pub returns-then-text-gt-MOST_TEXT : goal.returns-then-text-gt-MOST_TEXT
returns-then-text-gt-MOST_TEXT c = heard_long c.args.text.now _ _ c.if-text-gt-MOST_TEXT.true

pub returns-in-Err : goal.returns-in-Err
returns-in-Err c =
    rw c.text_fault.ensures (heard_wrong c.args.text.now c.if-text-gt-MOST_TEXT.false c.in-Err.ensures)

pub returns-in-Ok : goal.returns-in-Ok
returns-in-Ok c = heard_whole c.args.text.now c.if-text-gt-MOST_TEXT.false c.in-Ok.ensures
