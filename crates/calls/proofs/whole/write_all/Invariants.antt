use Rattle.std.proofs.Common.{◌≡◌, ◌*◌}
use Rattle.stores.specs.Sources.{plain_kept}
use Rattle.records.specs.Source.{source_told}
use Rattle.records.specs.Left.{words_left}
use Rattle.calls.proofs.Loading.{Passing}
use Rattle.calls.proofs.whole.write_all.Given as goal

abbrev pub invariant-loop-pixel : goal.invariant-loop-pixel
invariant-loop-pixel g l =
    let first = plain_kept g.S.Source.told g.S.Store.longest g.S.Store.total l.initial.store in
    let it = l.pixel-iterator in
    (goal.iterator-loop-pixel g).can_next it
    × (goal.iterator-loop-pixel g).is_finite it
    × (it.a.end ≡ first.width * first.height)
    × Passing first (source_told l.source) (plain_kept g.S.Source.told g.S.Store.longest g.S.Store.total l.store) (words_left it.b) it.a.start
