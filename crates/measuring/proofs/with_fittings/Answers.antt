-- `with_fittings` meets its contract.
use Rattle.std.proofs.Common.{◌≡◌, ◌+◌, ◌≤◌, ◌∙◌, sym, false, arith}
use Rattle.sheet.specs.Lines.{fittings}
use Rattle.sheet.specs.Sheet.{fits_ok}
use Rattle.capacity.specs.Weights.{added_up}
use Rattle.capacity.proofs.Weights.{sum_end}
use Rattle.measuring.proofs.Fits.{line_few, line_told, line_weighs, fits_end}
use Rattle.measuring.proofs.with_fittings.Goals as goal

pub loop-weight-preserved : goal.loop-weight-preserved
loop-weight-preserved c =
    let told = line_told _ c.requires.1 c.as_chunks.ensures.front c.loop-weight.weight-index (omega arith) in
    let more = line_weighs _ c.requires.1 c.as_chunks.ensures.front c.loop-weight.weight-index (omega arith) in
    let fit = sym c.fit_ok.ensures ∙ c.if-not-fit_ok.false in
    let few = line_few c.as_chunks.result.0.now c.loop-weight.weight-index fit in
    (c.loop-weight.invariant.0 ∙ told ∙ rw fit, omega arith, omega arith)

pub returns-then-not-fit_ok : goal.returns-then-not-fit_ok
returns-then-not-fit_ok c =
    let told = line_told _ c.requires.1 c.as_chunks.ensures.front c.loop-weight.weight-index (omega arith) in
    let fails : fits_ok fittings c.args.fits.now ≡ false =
    c.loop-weight.invariant.0 ∙ told ∙ rw (sym c.fit_ok.ensures ∙ c.if-not-fit_ok.true) in
    rw fails

pub returns : goal.returns
returns c =
    let last : fittings ≤ c.loop-weight.weight-index = omega arith in
    let none = sum_end c.args.fits.now c.loop-weight.weight-index (omega arith) in
    let total : c.loop-weight.total ≡ c.args.bare + added_up c.args.fits.now = omega arith in
    rw (c.loop-weight.invariant.0 ∙ fits_end _ _ c.requires.1 last, total)
