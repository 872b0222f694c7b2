-- What a record source tells.
--   source_told: the size and the words
use Rattle.stores.specs.Sources.{Told}
use Rattle.records.specs.declared.RecordSource.{RecordSource}
use Rattle.records.specs.Told.{record_told}

abbrev pub source_told : RecordSource → Told
source_told s = record_told s.width s.height s.runs.now s.symbols.now
