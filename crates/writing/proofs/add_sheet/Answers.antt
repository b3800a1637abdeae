-- `add_sheet` meets its contract.
use Rattle.std.proofs.Common.{◌∙◌, ◌++◌, [], List, ℕ, ap, arith, length, length-append}
use Rattle.text.specs.Line.{line_text}
use Rattle.sheet.specs.Lines.{end_line}
use Rattle.writing.specs.Pieces.{fits_text}
use Rattle.writing.proofs.LineByLine.{start}
use Rattle.writing.proofs.WriteCall.{fits_of, parted, lengths}
use Rattle.writing.proofs.add_sheet.Goals as goal

pub add_lines-requires : goal.add_lines-requires
add_lines-requires c = start _ c.requires.empty c.requires.many c.requires.room

pub add_fits-requires-clause-room : goal.add_fits-requires-clause-room
add_fits-requires-clause-room c = omega (arith, lengths c.args.sheet.now _ c.add_lines.ensures.whole, c.requires.room)

pub add-requires-clause-room : goal.add-requires-clause-room
add-requires-clause-room c =
    let parts = lengths c.args.sheet.now _ c.add_lines.ensures.whole in
    let both = length-append c.add_lines.new.page (fits_text 1 (fits_of c.args.sheet.now)) in
    omega (arith, parts, both, ap length c.add_fits.ensures, c.requires.room)

pub returns : goal.returns
returns c =
    c.add.ensures
    ∙ ap (λ (x : List ℕ). x ++ line_text end_line []) c.add_fits.ensures
    ∙ parted c.args.sheet.now _ c.add_lines.ensures.whole
