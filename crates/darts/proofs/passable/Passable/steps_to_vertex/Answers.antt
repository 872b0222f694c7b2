use Rattle.std.proofs.Common.{◌<◌, arith, rules}
use Rattle.stores.specs.Sources.{sheet_told}
use Rattle.stores.proofs.Writes.{told_sheetly}
use Rattle.darts.proofs.Tours.{stroll_dart, stroll_short, stroll_more, stroll_length}
use Rattle.darts.proofs.passable.Passable.steps_to_vertex.Goals as goal

pub ahead-at-requires : goal.ahead-at-requires
ahead-at-requires g c =
    let t = g.S.Source.told c.args.self.now.source.now in
    stroll_dart (sheet_told t) (told_sheetly t (g.S.Source.lawful c.args.self.now.source.now)) c.args.self.now.free c.args.dart c.requires.dart c.loop-at.n c.loop-at.at c.loop-at.invariant

pub overflow_add-n : goal.overflow_add-n
overflow_add-n g c =
    let t = g.S.Source.told c.args.self.now.source.now in
    let l : c.loop-at.n < 1000000 = (stroll_short (sheet_told t) (told_sheetly t (g.S.Source.lawful c.args.self.now.source.now)) c.args.self.now.free c.args.dart c.requires.dart c.loop-at.n c.loop-at.at c.loop-at.invariant c.requires.begins).1 in
    search rules

pub returns-then-leaves_vertex : goal.returns-then-leaves_vertex
returns-then-leaves_vertex g c =
    let t = g.S.Source.told c.args.self.now.source.now in
    stroll_length (sheet_told t) (told_sheetly t (g.S.Source.lawful c.args.self.now.source.now)) c.args.self.now.free c.args.dart c.requires.dart c.loop-at.n c.loop-at.at c.loop-at.invariant c.ahead-at.result c.requires.begins c.ahead-at.ensures.is c.if-leaves_vertex.ensures

pub loop-at-smaller : goal.loop-at-smaller
loop-at-smaller g c =
    let t = g.S.Source.told c.args.self.now.source.now in
    let l = (stroll_short (sheet_told t) (told_sheetly t (g.S.Source.lawful c.args.self.now.source.now)) c.args.self.now.free c.args.dart c.requires.dart c.loop-at.n c.loop-at.at c.loop-at.invariant c.requires.begins).0 in
    omega (arith, l)

pub loop-at-preserved : goal.loop-at-preserved
loop-at-preserved g c =
    let t = g.S.Source.told c.args.self.now.source.now in
    stroll_more (sheet_told t) (told_sheetly t (g.S.Source.lawful c.args.self.now.source.now)) c.args.self.now.free c.args.dart c.requires.dart c.loop-at.n c.loop-at.at c.loop-at.invariant c.ahead-at.result c.ahead-at.ensures.is c.if-leaves_vertex.ensures
