-- `add_fits` meets its contract.
use Rattle.std.proofs.Common.{◌≡◌, arith, length-append}
use Rattle.std.specs.Simd.{first_chunks}
use Rattle.sheet.specs.Lines.{fittings}
use Rattle.writing.specs.Pieces.{fits_text}
use Rattle.writing.proofs.Fits.{done, room, step}
use Rattle.writing.proofs.add_fits.Goals as goal
use Rattle.writing.proofs.add_fits.Goals.{After-as_chunks}

pairs : (c : After-as_chunks) → c.as_chunks.result.0.now ≡ first_chunks 2 fittings c.args.fits.now
pairs c = rw c.requires.many at c.as_chunks.ensures.front

pub add_fit-requires : goal.add_fit-requires
add_fit-requires c =
    let are = pairs (goal.at.add_fit-requires c).After-as_chunks in
    let here = room c.loop-i.invariant c.requires.many are (omega arith) in
    omega (arith, here, length-append c.args.page.now (fits_text 1 c.args.fits.now), c.requires.room)

pub loop-i-preserved : goal.loop-i-preserved
loop-i-preserved c =
    step c.loop-i.invariant c.requires.many (pairs (goal.at.loop-i-preserved c).After-as_chunks) (omega arith)
    c.add_fit.ensures

pub returns : goal.returns
returns c = done c.loop-i.invariant c.requires.many (omega arith)
