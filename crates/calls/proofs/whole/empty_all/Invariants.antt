use Rattle.std.proofs.Common.{◌≡◌, ◌*◌, [], replicate}
use Rattle.stores.specs.Sources.{plain_kept}
use Rattle.calls.proofs.Loading.{redrawn}
use Rattle.calls.proofs.whole.empty_all.Given as goal

-- the pixels before this one are empty
abbrev pub invariant-loop-pixel : goal.invariant-loop-pixel
invariant-loop-pixel g l =
    let first = plain_kept g.S.Source.told g.S.Store.longest g.S.Store.total l.initial.store in
    plain_kept g.S.Source.told g.S.Store.longest g.S.Store.total l.store ≡ redrawn first (replicate (first.width * first.height) []) l.pixel
