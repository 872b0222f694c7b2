use Rattle.records.specs.Stretches.{run_list}
use Rattle.records.specs.Rows.{runs_left}
use Rattle.records.proofs.Spots.{Seeking}
use Rattle.records.proofs.runs.spot_of.Given as goal

abbrev pub invariant-loop-run : goal.invariant-loop-run
invariant-loop-run l = Seeking (run_list l.bytes) (runs_left l.run-iterator) l.end l.pixel l.low l.before
