-- The laws of darts, as the contracts of the crate name them.
--   NextUndone: next and previous undo each other wherever one is given
--   OppositeUndone: opposite undoes itself wherever it is given, and moves the dart
--   NoRoadFails: no road of a sheet fails
--   NextOneToOne: where no road fails, next leads darts to darts, one-to-one
--   NextReturns: there, going on by next comes back within as many steps as there are darts
--   DartsListed: the list of darts has each dart of the sheet once and no other, in order
use Rattle.std.specs.Prelude.{◌≡◌, ℕ, ◌<◌, ◌≤◌, true, false, ◌≢◌, ◌↔◌, length, Ok}
use Rattle.symbols.specs.declared.roads.Road.{Road}
use Rattle.orbits.specs.Orbits.{In, Apart, times}
use Rattle.orbits.specs.Statements.{Ordered}
use Rattle.model.specs.declared.darts.Dart.{Dart}
use Rattle.model.specs.Sheets.{Sheet, Sheetly, pixels, fails}
use Rattle.model.specs.Darts.{is_dart, darts, dart_le, next_of, opposite, next, previous}

abbrev pub NextUndone : Type 0
NextUndone =
    (s : Sheet) → Sheetly s → (c d : Dart) → (next s c ≡ Ok d) ↔ (previous s d ≡ Ok c)

abbrev pub OppositeUndone : Type 0
OppositeUndone =
    (s : Sheet) → Sheetly s → (c d : Dart) → opposite s c ≡ Ok d → (opposite s d ≡ Ok c) × (c ≢ d)

abbrev pub NoRoadFails : Sheet → Type 0
NoRoadFails s = (p : ℕ) (q : Road) → p < pixels s → fails s p q ≡ false

abbrev pub NextOneToOne : Type 0
NextOneToOne =
    (s : Sheet) → Sheetly s → NoRoadFails s
    → ((d : Dart) → is_dart s d ≡ true → (next s d ≡ Ok (next_of s d)) × (is_dart s (next_of s d) ≡ true))
    × ((c d : Dart) → is_dart s c ≡ true → is_dart s d ≡ true → next s c ≡ next s d → c ≡ d)

abbrev pub NextReturns : Type 0
NextReturns =
    (s : Sheet) → Sheetly s → NoRoadFails s → (d : Dart) → is_dart s d ≡ true
    → (k : ℕ) × (1 ≤ k) × (k ≤ length (darts s)) × (times (next_of s) k d ≡ d)

abbrev pub DartsListed : Type 0
DartsListed =
    (s : Sheet) → ((d : Dart) → In d (darts s) ↔ (is_dart s d ≡ true)) × Apart (darts s) × Ordered dart_le (darts s)
