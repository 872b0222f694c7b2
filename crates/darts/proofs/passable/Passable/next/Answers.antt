use Rattle.stores.specs.Sources.{sheet_told}
use Rattle.stores.proofs.Writes.{told_sheetly}
use Rattle.darts.proofs.Taken.{next_there}
use Rattle.darts.proofs.passable.Passable.next.Goals as goal

pub returns-clause-dart : goal.returns-clause-dart
returns-clause-dart g c =
    let s = c.args.self.now.source.now in
    let t = g.S.Source.told s in
    rw c.ok.ensures.value (next_there (sheet_told t) (told_sheetly t (g.S.Source.lawful s)) _ c.next.result c.next.ensures)
