-- The two sidewalks of a street, as the contracts of the crate name them.
--   other_bank: the dart that begins the other sidewalk of the street of a dart that begins one
--   TwoBanks: that dart begins a sidewalk, is another one and leads back, and from it the opposite darts follow in reverse order
--   StreetsPair: where no road fails, each sidewalk has its other bank
--   StreetsHalve: where the check passes, there are twice as many sidewalks as streets are counted
use Rattle.std.specs.Prelude.{◌≡◌, ℕ, ◌+◌, ◌≢◌, map, reverse, length, Ok}
use Rattle.orbits.specs.Orbits.{In, last, sidewalk, begins}
use Rattle.model.specs.declared.darts.Dart.{Dart}
use Rattle.model.specs.Sheets.{Sheet, Sheetly}
use Rattle.model.specs.Darts.{opposite_of}
use Rattle.model.specs.Streets.{circles, check, counts, count}
use Rattle.model.specs.Statements.{NoRoadFails}

-- opposite to the last dart of its sidewalk
abbrev pub other_bank : Sheet → Dart → Dart
other_bank s d = opposite_of s (last d (sidewalk (circles s) d))

pub record TwoBanks (s : Sheet) (d : Dart) : Type 0 where
  pub begin : In (other_bank s d) (begins (circles s))
  pub other : other_bank s d ≢ d
  pub back : other_bank s (other_bank s d) ≡ d
  pub turned : sidewalk (circles s) (other_bank s d) ≡ reverse (map (opposite_of s) (sidewalk (circles s) d))

abbrev pub StreetsPair : Type 0
StreetsPair =
    (s : Sheet) → Sheetly s → NoRoadFails s → (d : Dart) → In d (begins (circles s)) → TwoBanks s d

abbrev pub StreetsHalve : Type 0
StreetsHalve =
    (s : Sheet) → Sheetly s → check s ≡ Ok tt
    → (n : ℕ) × (length (begins (circles s)) ≡ n + n) × ((counts s).street_count ≡ n) × (count s ≡ Ok (counts s))
