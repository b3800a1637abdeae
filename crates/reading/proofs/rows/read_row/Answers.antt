-- `read_row` meets its contract.
use mathlib.Core.Path.{refl}
use Rattle.std.proofs.lemmas.Result.{err_from_is_err_and}
use Rattle.reading.proofs.Row.{row_fault, row_read}
use Rattle.reading.proofs.rows.read_row.Goals as goal

pub returns-in_err-len : goal.returns-in_err-len
returns-in_err-len c =
    let p = err_from_is_err_and c.from_residual.result c.from_residual.ensures.1 in
    rw (p.1, p.2) (row_fault _ _ c.in_err-len.ensures)

pub returns : goal.returns
returns c = row_read _ _ refl c.in_ok-len.ensures
