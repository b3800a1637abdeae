-- How far `add_fits` has come.
use Rattle.std.proofs.Common.{◌++◌}
use Rattle.writing.specs.Pieces.{fits_text}
use Rattle.writing.proofs.Fits.{Ahead}
use Rattle.writing.proofs.add_fits.Given as goal

abbrev pub invariant-loop-i : goal.invariant-loop-i
invariant-loop-i l = Ahead l.fits l.page l.i (l.initial.page ++ fits_text 1 l.fits)
