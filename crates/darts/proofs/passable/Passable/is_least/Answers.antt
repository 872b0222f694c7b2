use Rattle.std.proofs.Common.{true, false, sym}
use Rattle.stores.specs.Sources.{sheet_told}
use Rattle.stores.proofs.Writes.{told_sheetly}
use Rattle.darts.proofs.Orders.{earlier, other}
use Rattle.darts.proofs.Tours.{rooting_start, rooting_dart, rooting_yes, rooting_ahead, rooting_back, rooting_more, rooting_less}
use Rattle.darts.proofs.passable.Passable.is_least.Goals as goal
use Rattle.darts.proofs.passable.Passable.is_least.Goals.{then-lt-via-then-lt, then-lt-via-else-lt+then-lt-2}

pub loop-dart-init : goal.loop-dart-init
loop-dart-init g c =
    let t = g.S.Source.told c.args.self.now.source.now in
    rooting_start (sheet_told t) (told_sheetly t (g.S.Source.lawful c.args.self.now.source.now)) c.args.self.now.free c.args.dart c.requires.dart c.args.next c.behind-back.result c.requires.next c.behind-back.ensures.ahead c.behind-back.ensures.dart

pub ahead-ahead-requires : goal.ahead-ahead-requires
ahead-ahead-requires g c =
    let t = g.S.Source.told c.args.self.now.source.now in
    rooting_dart (sheet_told t) (told_sheetly t (g.S.Source.lawful c.args.self.now.source.now)) c.args.self.now.free c.args.dart c.requires.dart c.loop-dart.ahead c.loop-dart.back c.loop-dart.invariant

pub returns-then-lt : goal.returns-then-lt
returns-then-lt g c =
    let t = g.S.Source.told c.args.self.now.source.now in
    elim c.then-lt.branch [
      | then-lt-via-then-lt w ↦
          sym (rooting_ahead (sheet_told t) (told_sheetly t (g.S.Source.lawful c.args.self.now.source.now)) c.args.self.now.free c.args.dart c.requires.dart c.loop-dart.ahead c.loop-dart.back c.loop-dart.invariant
          (earlier c.loop-dart.ahead c.args.dart true w.if-lt.ensures))
      | then-lt-via-else-lt+then-lt-2 w ↦
          sym (rooting_back (sheet_told t) (told_sheetly t (g.S.Source.lawful c.args.self.now.source.now)) c.args.self.now.free c.args.dart c.requires.dart c.loop-dart.ahead c.loop-dart.back c.loop-dart.invariant
          (earlier c.loop-dart.back c.args.dart true w.if-lt-2.ensures))
    ]

pub loop-dart-smaller : goal.loop-dart-smaller
loop-dart-smaller g c =
    let t = g.S.Source.told c.args.self.now.source.now in
    rooting_less (sheet_told t) (told_sheetly t (g.S.Source.lawful c.args.self.now.source.now)) c.args.self.now.free c.args.dart c.requires.dart c.loop-dart.ahead c.loop-dart.back c.loop-dart.invariant c.ahead-ahead.result c.ahead-ahead.ensures.is
    (other c.loop-dart.ahead c.args.dart true c.loop-dart-test.ensures)

pub loop-dart-preserved : goal.loop-dart-preserved
loop-dart-preserved g c =
    let t = g.S.Source.told c.args.self.now.source.now in
    rooting_more (sheet_told t) (told_sheetly t (g.S.Source.lawful c.args.self.now.source.now)) c.args.self.now.free c.args.dart c.requires.dart c.loop-dart.ahead c.loop-dart.back c.loop-dart.invariant c.ahead-ahead.result c.behind-back-in-loop-dart.result
    (earlier c.loop-dart.ahead c.args.dart false c.if-lt.ensures) c.ahead-ahead.ensures.is c.behind-back-in-loop-dart.ensures.ahead c.behind-back-in-loop-dart.ensures.dart

pub returns : goal.returns
returns g c =
    let t = g.S.Source.told c.args.self.now.source.now in
    sym (rooting_yes (sheet_told t) (told_sheetly t (g.S.Source.lawful c.args.self.now.source.now)) c.args.self.now.free c.args.dart c.requires.dart c.loop-dart.ahead c.loop-dart.back c.loop-dart.invariant (other c.loop-dart.ahead c.args.dart false c.loop-dart-test.ensures))
