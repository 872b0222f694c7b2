use Rattle.records.specs.Stretches.{run_list}
use Rattle.records.specs.Rows.{runs_left}
use Rattle.records.proofs.Spots.{Counting}
use Rattle.records.proofs.runs.count_pixels.Given as goal

abbrev pub invariant-loop-run : goal.invariant-loop-run
invariant-loop-run l = Counting (run_list l.bytes) (runs_left l.run-iterator) l.end l.low l.pixels
