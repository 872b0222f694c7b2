use Rattle.stores.specs.Sources.{sheet_told}
use Rattle.stores.proofs.Writes.{told_sheetly}
use Rattle.records.specs.Told.{record_told, record_lawful}
use Rattle.capi.proofs.Small.{next_small}
use Rattle.capi.proofs.plate_next.Goals as goal

pub told-requires : goal.told-requires
told-requires c =
    let s = c.in-Ok.source in
    let t = record_told s.width s.height s.runs.now s.symbols.now in
    next_small (sheet_told t) (told_sheetly t (record_lawful s.width s.height s.runs.now s.symbols.now)) c.dart_of.result c.next.result c.next.ensures
