use Rattle.std.proofs.Common.{◌≡◌, ◌+◌}
use Rattle.recorder.proofs.Shown.{left_from}
use Rattle.recorder.proofs.words.count_symbols.Given as goal

abbrev pub invariant-loop-pixel : goal.invariant-loop-pixel
invariant-loop-pixel g l =
    let ws = (g.S.Source.told l.source).words in
    l.n + left_from ws l.pixel ≡ left_from ws 0
