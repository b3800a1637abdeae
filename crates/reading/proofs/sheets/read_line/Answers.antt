-- `read_line` meets its contract.
use native.Mathlib.Omega.{arith}
use Rattle.text.specs.Line.{read_line}
use Rattle.sheet.specs.Sheet.{limit_rows, limits_on}
use Rattle.reading.proofs.NextLine.{goes_on, one_on, line_in}
use Rattle.reading.proofs.sheets.read_line.Goals as goal

pub told_after-requires : goal.told_after-requires
unfolding read_line limit_rows limits_on
told_after-requires c =
    let words = c.args.words.now in
    let h = line_in c.args.tag.now c.args.text.now words c.requires.next c.requires.so_far c.read_line.ensures in
    omega (arith, h, c.well_formed)

pub returns : goal.returns
unfolding read_line limit_rows limits_on
returns c =
    let words = c.args.words.now in
    rw c.told_after.ensures
    (record {
      line = goes_on c.args.tag.now c.args.text.now words c.requires.next c.requires.so_far c.read_line.ensures;
      so_far = one_on c.args.tag.now c.args.text.now words c.requires.next c.requires.so_far c.read_line.ensures;
    })
