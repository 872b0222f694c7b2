use Rattle.std.proofs.Common.{◌≡◌, ◌+◌, length}
use Rattle.recorder.specs.Words.{marks_told}
use Rattle.recorder.proofs.Closing.{left_runs}
use Rattle.codec.specs.Runs.{runs}
use Rattle.recorder.proofs.runs.count_runs.Given as goal

abbrev pub invariant-loop-pixel : goal.invariant-loop-pixel
invariant-loop-pixel g l =
    let ms = marks_told (g.S.Source.told l.source) in
    l.n + length (left_runs ms l.first l.pixel) ≡ length (runs 0 ms)
