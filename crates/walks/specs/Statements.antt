-- What is proved of walks and roots, as the contracts of the crate name it.
--   Homeward: going on from a dart, either a step is refused or it comes home, within as many steps as there are darts
--   RootLeast: where no road fails, the root of a dart is the least dart of its loop
use Rattle.std.specs.Prelude.{◌≡◌, ℕ, ◌≤◌, true, length, Ok}
use Rattle.orbits.specs.Statements as loops
use Rattle.model.specs.declared.darts.Dart.{Dart}
use Rattle.model.specs.Sheets.{Sheet, Sheetly}
use Rattle.model.specs.Darts.{dart_le, is_dart, darts}
use Rattle.model.specs.Streets.{circles, root}
use Rattle.model.specs.Statements.{NoRoadFails}
use Rattle.walks.specs.Walks.{onward}

-- where as many steps as there are darts are given, some step before has come home
abbrev pub Homeward : Type 0
Homeward =
    (s : Sheet) → Sheetly s → (d e : Dart) → is_dart s d ≡ true → onward s (length (darts s)) d ≡ Ok e
    → (k : ℕ) × (1 ≤ k) × (k ≤ length (darts s)) × (onward s k d ≡ Ok d)

abbrev pub RootLeast : Type 0
RootLeast =
    (s : Sheet) → Sheetly s → NoRoadFails s → (d : Dart) → is_dart s d ≡ true → root s d ≡ Ok (loops.root (circles s) dart_le d)
