-- `write_sheet` meets its contract.
use Rattle.std.proofs.Common.{◌∙◌, sym, ap, length, arith}
use Rattle.sheet.proofs.Most.{text_most_lem}
use Rattle.writing.proofs.WriteCall.{settled_written}
use Rattle.writing.proofs.write_sheet.Goals as goal

pub add_sheet-requires-clause-room : goal.add_sheet-requires-clause-room
add_sheet-requires-clause-room c = text_most_lem c.args.sheet.now (sym c.sheet_ok.ensures ∙ c.if-not-sheet_ok.false)

pub overflow_cast-result : goal.overflow_cast-result
overflow_cast-result c =
    let most = text_most_lem c.args.sheet.now (sym c.sheet_ok.ensures ∙ c.if-not-sheet_ok.false) in
    omega (arith, ap length (c.text-text.ensures ∙ c.add_sheet.ensures), most)

pub returns : goal.returns
returns c =
    settled_written c.args.sheet.now c.args.out.now (sym c.sheet_ok.ensures ∙ c.if-not-sheet_ok.false)
    (c.text-text.ensures ∙ c.add_sheet.ensures) c.if-out-text.false c.write_bytes.ensures
