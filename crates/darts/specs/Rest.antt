-- The darts that are to come.
--   leave: those of a pixel, through roads with so many places each, from a place of the first road on
--   still: what is still to leave a pixel
--   rest: such darts, then those of the pixels behind it
--   to_come: what an iterator is still to give, where sources tell so
--   NextOf: an iterator gives the first of a list, if there is one, and leaves the others
--   where_dart: an answer for the darts that there are
--   where_begun: an answer for the darts that begin a sidewalk
use Rattle.std.specs.Prelude.{◌≡◌, ℕ, ◌-◌, cond, ◌&&◌, List, [], ◌∷◌, ◌++◌, map, drop, Some, None, Option, MatchOption}
use Rattle.std.specs.List.{flat_map}
use Rattle.symbols.specs.declared.roads.Road.{Road}
use Rattle.symbols.specs.Symbols.{roads}
use Rattle.model.specs.declared.darts.Dart.{Dart}
use Rattle.model.specs.Sheets.{Sheet, pixels}
use Rattle.model.specs.Darts.{dart, is_dart, darts_in, from_on}
use Rattle.model.specs.Streets.{leaves_vertex}
use Rattle.stores.specs.Sources.{Told, sheet_told}
use Rattle.darts.specs.declared.leaving.Leaving.{Leaving}
use Rattle.darts.specs.declared.order.Darts.{Darts}

abbrev pub leave : ℕ → ℕ → List Road → List ℕ → List Dart
leave p k [] ns = []
leave p k (q ∷ qs) [] = []
leave p k (q ∷ qs) (n ∷ ns) = map (dart p q) (from_on k (n - k)) ++ leave p 0 qs ns

abbrev pub still : Leaving → List Dart
still l = leave l.pixel l.place (drop l.road roads) (drop l.road l.counts)

abbrev pub rest : Sheet → List Dart → ℕ → List Dart
rest s here behind = here ++ flat_map (darts_in s) (from_on behind (pixels s - behind))

abbrev pub to_come : {S : Type 0} → (S → Told) → Darts S → List Dart
to_come told d = rest (sheet_told (told d.source.now)) (still d.here) d.pixel

abbrev pub NextOf : List Dart → Option Dart → List Dart → Type 0
NextOf before r after = MatchOption r (before ≡ []) (λ d. before ≡ d ∷ after)

abbrev pub where_dart : {A : Type 0} → Sheet → Dart → A → Option A
where_dart s d x = cond (is_dart s d) (Some x) None

abbrev pub where_begun : {A : Type 0} → Sheet → Dart → A → Option A
where_begun s d x = cond (is_dart s d && leaves_vertex s d) (Some x) None
