use Rattle.std.proofs.Common.{◌≡◌, length}
use Rattle.recorder.specs.Words.{marks_told}
use Rattle.recorder.proofs.Closing.{Writing}
use Rattle.recorder.proofs.runs.write_runs.Given as goal

abbrev pub invariant-loop-pixel : goal.invariant-loop-pixel
invariant-loop-pixel g l =
    Writing (marks_told (g.S.Source.told l.source)) l.initial.out.bytes.now l.out.bytes.now l.initial.out.at l.out.at l.first l.pixel
    × (length l.out.bytes.now ≡ length l.initial.out.bytes.now)
    × (l.out.bytes.ghost_name ≡ l.initial.out.bytes.ghost_name)
