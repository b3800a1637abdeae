-- `gain` meets its contract.
use mathlib.Core.Path.{◌≡◌}
use Rattle.capacity.specs.Volume.{volume_n}
use Rattle.capacity.proofs.Within.{stations_within}
use Rattle.capacity.proofs.Most.{gain_most_lem}
use native.Mathlib.Omega.{arith}
use Rattle.figuring.proofs.boat.Boat.gain.Goals as goal

pub volume_of-requires : goal.volume_of-requires
volume_of-requires c =
    rw c.word.ensures
    (stations_within _ c.args.self.within c.readings.ensures c.readings-2.ensures c.readings-3.ensures
    c.readings-4.ensures)

-- what it returns is the sheet's gain, which fits
pub overflow_add-result : goal.overflow_add-result
unfolding volume_n
overflow_add-result c =
    let whole : c.volume_of.result ≡ volume_n c.args.self.sheet.now = cc in
    omega (arith, gain_most_lem _ c.args.self.within)

pub returns : goal.returns
unfolding volume_n
returns c = cc
