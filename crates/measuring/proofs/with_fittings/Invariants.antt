-- How far `with_fittings` has come.
use Rattle.std.proofs.Common.{◌≡◌, ◌+◌, ◌-◌, ◌*◌, ◌≤◌, drop}
use Rattle.sheet.specs.Lines.{fittings, fitting_high}
use Rattle.sheet.specs.Sheet.{fits_ok}
use Rattle.capacity.specs.Weights.{added_up}
use Rattle.measuring.proofs.with_fittings.Given as goal

abbrev pub invariant-loop-weight : goal.invariant-loop-weight
invariant-loop-weight l =
    (fits_ok fittings l.fits ≡ fits_ok (fittings - l.weight-index) (drop (2 * l.weight-index) l.fits))
    × (l.total + added_up (drop (2 * l.weight-index) l.fits) ≡ l.bare + added_up l.fits)
    × (l.total ≤ l.bare + fitting_high * l.weight-index)
