-- How far `from_stations` has come.
use Rattle.std.proofs.Common.{◌≡◌}
use Rattle.sheet.specs.Places.{station_at, fittings_at}
use Rattle.measuring.specs.Part.{part_ok}
use Rattle.measuring.proofs.Judged.from_stations.Given as goal

abbrev pub invariant-loop-station : goal.invariant-loop-station
invariant-loop-station l =
    part_ok l.self.words.now (station_at 0) fittings_at ≡ part_ok l.self.words.now (station_at l.station) fittings_at
