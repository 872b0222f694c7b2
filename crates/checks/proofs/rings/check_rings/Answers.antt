use Rattle.std.proofs.Common.{rules}
use Rattle.stores.specs.Sources.{sheet_told}
use Rattle.darts.proofs.Coming.{listed_dart}
use Rattle.checks.proofs.rings.check_rings.Goals as goal

pub unwrap-requires : goal.unwrap-requires
unwrap-requires g c =
    let d = listed_dart (sheet_told (g.S.Source.told c.args.free.now.source.now)) c.loop-dart.yielded _ c.in-Some.dart _ c.in-Some.ensures.steps c.loop-dart.invariant.listed in
    rw (c.on_ring.ensures, d) (search rules)
