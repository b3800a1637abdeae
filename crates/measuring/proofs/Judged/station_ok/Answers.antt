-- `station_ok` meets its contract.
use Rattle.measuring.proofs.Runs.{station}
use Rattle.measuring.proofs.Judged.station_ok.Goals as goal

pub run_ok-requires : goal.run_ok-requires
run_ok-requires c = (station _ c.requires).b

pub run_ok-requires-then-run_ok : goal.run_ok-requires-then-run_ok
run_ok-requires-then-run_ok c = (station _ c.requires).others
