use Rattle.std.proofs.Common.{sym, ◌∙◌}
use Rattle.stores.specs.Sources.{sheet_told}
use Rattle.stores.proofs.Writes.{told_sheetly}
use Rattle.walks.proofs.Homing.{landed}
use Rattle.darts.proofs.passable.Passable.ahead.Goals as goal

pub returns-clause-dart : goal.returns-clause-dart
returns-clause-dart g c =
    let t = g.S.Source.told c.args.self.now.source.now in
    (landed (sheet_told t) (told_sheetly t (g.S.Source.lawful c.args.self.now.source.now)) _ _ (sym c.next.ensures ∙ c.unwrap.ensures)).1
