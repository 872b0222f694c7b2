use Rattle.std.proofs.Common.{sym, rules}
use Rattle.stores.specs.Sources.{sheet_told}
use Rattle.stores.proofs.Writes.{told_sheetly}
use Rattle.darts.proofs.Tours.{ringing_dart, ringing_no, ringing_yes, ringing_more, ringing_less}
use Rattle.darts.proofs.passable.Passable.comes_round.Goals as goal

pub leaves_vertex-requires : goal.leaves_vertex-requires
leaves_vertex-requires g c =
    let t = g.S.Source.told c.args.self.now.source.now in
    ringing_dart (sheet_told t) (told_sheetly t (g.S.Source.lawful c.args.self.now.source.now)) c.args.self.now.free c.args.dart c.requires c.loop-dart.ahead c.loop-dart.invariant

pub ahead-ahead-requires : goal.ahead-ahead-requires
ahead-ahead-requires g c =
    let t = g.S.Source.told c.args.self.now.source.now in
    ringing_dart (sheet_told t) (told_sheetly t (g.S.Source.lawful c.args.self.now.source.now)) c.args.self.now.free c.args.dart c.requires c.loop-dart.ahead c.loop-dart.invariant

pub returns-then-eq : goal.returns-then-eq
returns-then-eq g c =
    let t = g.S.Source.told c.args.self.now.source.now in
    sym (ringing_yes (sheet_told t) (told_sheetly t (g.S.Source.lawful c.args.self.now.source.now)) c.args.self.now.free c.args.dart c.requires c.loop-dart.ahead c.loop-dart.invariant c.ahead-ahead.result c.ahead-ahead.ensures.is c.loop-dart-test.ensures (search rules))

pub loop-dart-smaller : goal.loop-dart-smaller
loop-dart-smaller g c =
    let t = g.S.Source.told c.args.self.now.source.now in
    ringing_less (sheet_told t) (told_sheetly t (g.S.Source.lawful c.args.self.now.source.now)) c.args.self.now.free c.args.dart c.requires c.loop-dart.ahead c.loop-dart.invariant c.ahead-ahead.result c.ahead-ahead.ensures.is c.loop-dart-test.ensures (search rules)

pub loop-dart-preserved : goal.loop-dart-preserved
loop-dart-preserved g c =
    let t = g.S.Source.told c.args.self.now.source.now in
    ringing_more (sheet_told t) (told_sheetly t (g.S.Source.lawful c.args.self.now.source.now)) c.args.self.now.free c.args.dart c.requires c.loop-dart.ahead c.loop-dart.invariant c.ahead-ahead.result c.ahead-ahead.ensures.is c.loop-dart-test.ensures

pub returns : goal.returns
returns g c =
    let t = g.S.Source.told c.args.self.now.source.now in
    sym (ringing_no (sheet_told t) (told_sheetly t (g.S.Source.lawful c.args.self.now.source.now)) c.args.self.now.free c.args.dart c.requires c.loop-dart.ahead c.loop-dart.invariant c.loop-dart-test.ensures)
