-- What a street list tells of its sheet, as the contracts of the crate name it.
--   lefts: the darts left of the arrows, line by line
--   Chained: each dart of a line is followed by its next, and the last one by the dart right of the arrow
--   Covered, ListsCover: left of the arrows of a list stands every dart once and no other, each followed by its next
--   SidewalksPart: where no road fails, the darts on sidewalks are those on no ring, each on one sidewalk and once
--   FitsItem, FitsLine: numbers that fit their types
--   TextsTell: the bytes of a list determine its size and its lines
--   SameMap: two sheets have one size and the same drawing at every pixel
--   ListsTell: lists that are given are equal exactly when their sheets are the same map
use Rattle.std.specs.Prelude.{◌≡◌, ℕ, ◌^◌, ◌<◌, true, false, ◌↔◌, List, [], ◌∷◌, Ok}
use Rattle.std.specs.List.{flat_map, AllByRecursion}
use Rattle.orbits.specs.Orbits.{In, Apart}
use Rattle.model.specs.declared.darts.Dart.{Dart}
use Rattle.model.specs.Sheets.{Sheet, Sheetly, pixels, drawing_at}
use Rattle.model.specs.Darts.{is_dart, next}
use Rattle.model.specs.Streets.{on_ring, check, street_lines, list_text, street_list}
use Rattle.model.specs.Statements.{NoRoadFails}

abbrev pub lefts : List (List Dart × Dart) → List Dart
lefts ls = flat_map (λ l. l.0) ls

-- a line is never empty
abbrev pub Chained : Sheet → List Dart → Dart → Type 0
Chained s [] e = ⊥
Chained s (d ∷ []) e = next s d ≡ Ok e
Chained s (c ∷ (d ∷ ds)) e = (next s c ≡ Ok d) × Chained s (d ∷ ds) e

pub record Covered (s : Sheet) : Type 0 where
  pub every : (d : Dart) → In d (lefts (street_lines s)) ↔ (is_dart s d ≡ true)
  pub once : Apart (lefts (street_lines s))
  pub followed : (l : List Dart × Dart) → In l (street_lines s) → Chained s l.0 l.1

abbrev pub ListsCover : Type 0
ListsCover = (s : Sheet) → Sheetly s → check s ≡ Ok tt → Covered s

abbrev pub SidewalksPart : Type 0
SidewalksPart =
    (s : Sheet) → Sheetly s → NoRoadFails s
    → ((d : Dart) → In d (lefts (street_lines s)) ↔ ((is_dart s d ≡ true) × (on_ring s d ≡ false))) × Apart (lefts (street_lines s))

pub record FitsItem (d : Dart) : Type 0 where
  pub pixel : d.pixel < 2 ^ 32
  pub place : d.place < 2 ^ 32

abbrev pub FitsLine : List Dart × Dart → Type 0
FitsLine l = AllByRecursion FitsItem l.0 × FitsItem l.1

abbrev pub TextsTell : Type 0
TextsTell =
    (w h v g : ℕ) (ls ms : List (List Dart × Dart)) → w < 2 ^ 32 → h < 2 ^ 32 → v < 2 ^ 32 → g < 2 ^ 32 → AllByRecursion FitsLine ls → AllByRecursion FitsLine ms
    → list_text w h ls ≡ list_text v g ms → (w ≡ v) × (h ≡ g) × (ls ≡ ms)

pub record SameMap (s t : Sheet) : Type 0 where
  pub widths : s.width ≡ t.width
  pub heights : s.height ≡ t.height
  pub drawings : (p : ℕ) → p < pixels s → drawing_at s p ≡ drawing_at t p

abbrev pub ListsTell : Type 0
ListsTell =
    (s t : Sheet) → Sheetly s → Sheetly t → (a b : List ℕ) → street_list s ≡ Ok a → street_list t ≡ Ok b → (a ≡ b) ↔ SameMap s t
