-- `lay_printed` meets its contract.
use Rattle.printing.proofs.Laying.{sheet_printed, words_ok_lem, rows_printed_lem}
use Rattle.printout.proofs.Printed.{printed_long}
use Rattle.printing.proofs.lay_printed.Goals as goal

pub returns-then-input-gt-MOST_INPUT : goal.returns-then-input-gt-MOST_INPUT
returns-then-input-gt-MOST_INPUT c =
    rw (printed_long c.args.input.now c.if-input-gt-MOST_INPUT.true) c.lay_fault.ensures

pub lay_rows-requires : goal.lay_rows-requires
lay_rows-requires c =
    let input = c.args.input.now in
    let short = c.if-input-gt-MOST_INPUT.false in
    let end = c.sheet_bytes-end.ensures.counted in (
      words_ok_lem input short end c.in-Ok.ensures,
      rw (rows_printed_lem input short end c.in-Ok.ensures) c.requires,
    )

pub returns-in-Err : goal.returns-in-Err
returns-in-Err c =
    let short = c.if-input-gt-MOST_INPUT.false in
    rw (← sheet_printed c.args.input.now short c.sheet_bytes-end.ensures.counted c.in-Err.ensures)
    c.lay_fault-in-Err.ensures

pub returns-in-Ok : goal.returns-in-Ok
returns-in-Ok c =
    let short = c.if-input-gt-MOST_INPUT.false in
    rw (← rows_printed_lem c.args.input.now short c.sheet_bytes-end.ensures.counted c.in-Ok.ensures)
    c.lay_rows.ensures
