use Rattle.std.proofs.Common.{◌<◌, rules}
use Rattle.model.specs.Sheets.{pixels}
use Rattle.stores.specs.Sources.{sheet_told}
use Rattle.stores.proofs.Writes.{told_sheetly}
use Rattle.maps.proofs.Sides.{beyond_there}
use Rattle.maps.proofs.passing.far_side.Goals as goal

pub unwrap-requires : goal.unwrap-requires
unwrap-requires g c =
    let t = g.S.Source.told c.args.source.now in
    let h : c.in_ok-beyond.beyond < pixels (sheet_told t) = beyond_there (sheet_told t) (told_sheetly t (g.S.Source.lawful c.args.source.now)) c.args.pixel c.args.road c.in_ok-beyond.beyond c.requires (c.in_ok-beyond.ensures) in
    search rules
