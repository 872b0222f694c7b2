-- Words that may replace those of a plain sheet.
--   Fits: they have its size, none is over the longest, and all keep to the total
use Rattle.std.specs.Prelude.{◌≡◌, ◌≤◌}
use Rattle.std.specs.List.{AllByRecursion}
use Rattle.plain.specs.Plain.{Plain, symbols_in, symbols_of}
use Rattle.stores.specs.Sources.{Told, sheet_told}

pub record Fits (s : Plain) (t : Told) : Type 0 where
  pub width : t.width ≡ s.width
  pub height : t.height ≡ s.height
  pub to_longest : AllByRecursion (λ d. symbols_in d ≤ s.longest) (sheet_told t).drawings
  pub to_total : symbols_of (sheet_told t).drawings ≤ s.total
