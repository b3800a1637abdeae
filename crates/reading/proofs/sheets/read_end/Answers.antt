-- `read_end` meets its contract.
use native.Mathlib.Omega.{arith}
use mathlib.Core.Path.{◌≡◌}
use Rattle.text.specs.Field.{agreed}
use Rattle.text.proofs.Field.{agreed_most}
use Rattle.sheet.specs.Lines.{end_line}
use Rattle.reading.proofs.Rest.{end_broken, end_more, end_last}
use Rattle.reading.proofs.sheets.read_end.Goals as goal
use Rattle.reading.proofs.sheets.read_end.Goals.{then-same-lt4-via-then-same-lt4}
use Rattle.reading.proofs.sheets.read_end.Goals.{then-same-lt4-via-else-same-lt4+then-text-gt4}

pub returns-then-same-lt4 : goal.returns-then-same-lt4
returns-then-same-lt4 c =
    let text = c.args.text.now in
    let same = c.agreement-same.ensures in
    elim c.then-same-lt4.branch [
      | then-same-lt4-via-then-same-lt4 w ↦ rw same (end_broken text (rw same at w.if-same-lt4.true))
      | then-same-lt4-via-else-same-lt4+then-text-gt4 w ↦
          let four : agreed end_line.tag text ≡ 4 = omega (arith, same, agreed_most end_line.tag text) in
          rw (same, four) (end_more text four w.if-text-gt4.true)
    ]

pub returns : goal.returns
returns c =
    let text = c.args.text.now in
    end_last text (omega (arith, c.agreement-same.ensures, agreed_most end_line.tag text)) c.if-text-gt4.false
