use Rattle.std.proofs.Common.{◌≡◌, ◌+◌, length}
use Rattle.recorder.proofs.Shown.{left_from, putting_from}
use Rattle.recorder.proofs.words.write_words.Given as goal

-- The words that are left lead where all of them lead, and no symbol is lost.
abbrev pub invariant-loop-pixel : goal.invariant-loop-pixel
invariant-loop-pixel g l =
    let ws = (g.S.Source.told l.source).words in
    (putting_from l.packed.part.now l.packed.symbols ws l.pixel ≡ putting_from l.initial.packed.part.now 0 ws 0)
    × (l.packed.symbols + left_from ws l.pixel ≡ left_from ws 0)
    × (length l.packed.part.now ≡ length l.initial.packed.part.now)
    × (l.packed.part.ghost_name ≡ l.initial.packed.part.ghost_name)
