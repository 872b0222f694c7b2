-- Runs as the code holds them.
--   run_of: a run
--   runs_left: the runs that are still to come
use Rattle.std.specs.Prelude.{List}
use Rattle.codec.specs.Runs.{Run, run}
use Rattle.records.specs.declared.runs.Run as code
use Rattle.records.specs.declared.runs.Runs.{Runs}
use Rattle.records.specs.Stretches.{run_list}

abbrev pub run_of : code.Run → Run
run_of r = run r.offset r.count

abbrev pub runs_left : Runs → List Run
runs_left s = run_list s.left.now
