-- The words of a record that are still to come.
--   words_left: those of the pixels from the present one on
use Rattle.std.specs.Prelude.{List, drop}
use Rattle.symbols.specs.declared.symbols.Symbol.{Symbol}
use Rattle.records.specs.declared.order.Words.{Words}
use Rattle.records.specs.Source.{source_told}

abbrev pub words_left : Words → List (List Symbol)
words_left s = drop s.place.pixel (source_told s.source).words
