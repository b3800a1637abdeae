-- How far `read_fits` has come.
use Rattle.reading.proofs.FitsLoop.{State}
use Rattle.reading.proofs.sheets.read_fits.Given as goal

abbrev pub invariant-loop : goal.invariant-loop
invariant-loop l = State l.text l.fits l.counter l.at l.next
