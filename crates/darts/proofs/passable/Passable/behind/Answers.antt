use Rattle.std.proofs.Common.{sym, ◌∙◌}
use Rattle.stores.specs.Sources.{sheet_told}
use Rattle.stores.proofs.Writes.{told_sheetly}
use Rattle.walks.proofs.Homing.{went}
use Rattle.darts.proofs.passable.Passable.behind.Goals as goal

pub returns : goal.returns
returns g c =
    let t = g.S.Source.told c.args.self.now.source.now in
    let l = went (sheet_told t) (told_sheetly t (g.S.Source.lawful c.args.self.now.source.now)) _ c.args.dart (sym c.unwrap.ensures ∙ c.previous.ensures) in
    record { ahead = l.0; dart = l.1 }
