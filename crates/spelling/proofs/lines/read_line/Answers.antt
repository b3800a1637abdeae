-- `read_line` meets its contract.
use mathlib.Core.Path.{sym, ◌∙◌}
use Rattle.text.proofs.Line.{Tagged, reads_untagged, tag_fits, reads_tagged, tagged_in}
use native.Mathlib.Omega.{arith}
use Rattle.spelling.proofs.lines.read_line.Goals as goal
use Rattle.spelling.proofs.lines.read_line.Goals.{Else-same-tag}

tagged : (c : Else-same-tag) → Tagged c.args.tag.now c.args.table.now c.args.text.now
tagged c = record { whole = sym c.agreement-same.ensures ∙ c.if-same-tag.false }

pub returns-then-same-tag : goal.returns-then-same-tag
returns-then-same-tag c =
    rw c.broken.ensures
    (reads_untagged c.args.tag.now c.args.table.now c.args.text.now c.args.out.now _ c.agreement-same.ensures
    c.if-same-tag.true)

pub slice_bounds-read_numbers-count : goal.slice_bounds-read_numbers-count
slice_bounds-read_numbers-count c =
    omega (arith, tag_fits (tagged (goal.at.slice_bounds-read_numbers-count c).Else-same-tag), c.if-same-tag.false)

pub slice_bounds-read_numbers-start : goal.slice_bounds-read_numbers-start
slice_bounds-read_numbers-start c =
    omega (arith, tag_fits (tagged (goal.at.slice_bounds-read_numbers-start c).Else-same-tag), c.if-same-tag.false)

pub told_after-requires : goal.told_after-requires
told_after-requires c =
    let g = tagged (goal.at.told_after-requires c).Else-same-tag in
    omega (arith, tagged_in g (rw c.if-same-tag.false at c.read_numbers.ensures), c.if-same-tag.false)

pub returns : goal.returns
returns c =
    let g = tagged (goal.at.returns c).Else-same-tag in
    rw (c.told_after.ensures, c.if-same-tag.false) (reads_tagged g (rw c.if-same-tag.false at c.read_numbers.ensures))
