use Rattle.std.proofs.Common.{false, sym, ◌∙◌}
use Rattle.model.specs.Streets.{leaves_vertex, on_ring}
use Rattle.stores.specs.Sources.{sheet_told}
use Rattle.stores.proofs.Writes.{told_sheetly}
use Rattle.darts.proofs.Taken.{found, told}
use Rattle.darts.proofs.Tours.{ringing_begun}
use Rattle.darts.proofs.passable.Passable.on_ring.Goals as goal

pub returns-then-branch : goal.returns-then-branch
returns-then-branch g c =
    let t = g.S.Source.told c.args.self.now.source.now in
    let d = c.args.dart in
    let w = found (sheet_told t) d (leaves_vertex (sheet_told t) d) c.in_ok-begins.field-0 c.in_ok-begins.ensures in
    told (sheet_told t) d (on_ring (sheet_told t) d) false w.0
    (sym (ringing_begun (sheet_told t) (told_sheetly t (g.S.Source.lawful c.args.self.now.source.now)) c.args.self.now.free d w.0 (sym w.1 ∙ c.if-branch.true)))
