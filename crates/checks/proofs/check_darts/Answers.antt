use Rattle.std.proofs.Common.{sym, refl}
use Rattle.stores.specs.Sources.{sheet_told}
use Rattle.stores.proofs.Writes.{told_sheetly}
use Rattle.checks.proofs.Deciding.{all_reached}
use Rattle.checks.proofs.check_darts.Goals as goal

pub returns-then-all_reached : goal.returns-then-all_reached
returns-then-all_reached g c =
    let t = g.S.Source.told c.args.free.now.source.now in
    sym (all_reached (sheet_told t) (told_sheetly t (g.S.Source.lawful c.args.free.now.source.now)) c.args.free.now.free (c.if-all_reached.ensures.0 refl))
