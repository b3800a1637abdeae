-- `lay_rows` meets its contract.
use Rattle.reading.proofs.EnginesCall.{rows_held}
use Rattle.printing.proofs.Laying.{fault_printed, columns_printed}
use Rattle.printing.proofs.lay_rows.Goals as goal

pub lay_plates-requires : goal.lay_plates-requires
lay_plates-requires c =
    let rows = columns_printed c.args.sheet.now c.args.engines.now (rows_held _ c.in-Ok.ensures) in
    (c.requires.0, rw rows c.requires.1)

pub returns-in-Err : goal.returns-in-Err
returns-in-Err c =
    rw (← fault_printed c.args.sheet.now c.args.engines.now c.in-Err.ensures) c.lay_fault.ensures

pub returns-in-Ok : goal.returns-in-Ok
returns-in-Ok c =
    rw (← columns_printed c.args.sheet.now c.args.engines.now (rows_held _ c.in-Ok.ensures))
    c.lay_plates.ensures
