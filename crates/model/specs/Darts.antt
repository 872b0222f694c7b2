-- Darts, and what opposite, next and previous answer.
--   dart: a dart leaves a pixel through the crossing at a place of a road
--   same_dart, dart_le: whether two are one; their order by pixel, road, place
--   is_dart: whether a sheet has a dart
--   from_on: so many numbers from one on
--   up_to: the numbers below a bound, in order
--   darts_on, darts_in: the darts through a road, and out of a pixel
--   darts: the darts of a sheet, in order
--   or_first: a number, or 0 where there is none
--   crossing_of: the number of a dart's crossing in its pixel
--   leaving: the dart that leaves a pixel of a drawing through a crossing
--   dart_of: the dart that leaves a pixel through the crossing with a number
--   turn, unturn: from a dart's crossing to the one before it in its group, to the one after it
--   opposite_of: leaves the entered pixel through the same crossing
--   next_of: leaves the entered pixel by the crossing before the entered one in its group
--   previous_of: undoes next
--   over: no such dart, or the road to be passed fails, or what is given
--   opposite, next, previous: their answers
use Rattle.std.specs.Prelude.{ℕ, zero, suc, ◌-◌, Bool, cond, ◌&&◌, ◌||◌, List, [], ◌∷◌, map, take, Some, None, Ok, Err, Option, Result, ◌==◌, nat_le, nat_lt, slice_index_or}
use Rattle.std.specs.List.{flat_map}
use Rattle.symbols.specs.declared.refusals.Refusal.{Refusal}
use Rattle.symbols.specs.declared.refusals.Refusal.TheVariants.{NoDart, RoadFails}
use Rattle.symbols.specs.declared.roads.Road.{Road}
use Rattle.symbols.specs.declared.roads.Road.TheVariants.{West}
use Rattle.symbols.specs.Symbols.{roads, road_code}
use Rattle.rules.specs.Words.{Drawing}
use Rattle.rules.specs.Tables.{at}
use Rattle.rules.specs.Crossings.{before, after, count_on, crossing_at}
use Rattle.model.specs.declared.darts.Dart.{Dart}
use Rattle.model.specs.Sheets.{Sheet, pixels, drawing_at, beyond, facing, count_at, fails}

abbrev pub dart : ℕ → Road → ℕ → Dart
dart p q k = record { pixel = p; road = q; place = k }

abbrev pub same_dart : Dart → Dart → Bool
same_dart c d = c.pixel == d.pixel && (road_code c.road == road_code d.road && c.place == d.place)

abbrev pub dart_le : Dart → Dart → Bool
dart_le c d =
    nat_lt c.pixel d.pixel
    || (c.pixel == d.pixel
    && (nat_lt (road_code c.road) (road_code d.road) || (road_code c.road == road_code d.road && nat_le c.place d.place)))

abbrev pub is_dart : Sheet → Dart → Bool
is_dart s d = nat_lt d.pixel (pixels s) && nat_lt d.place (count_at s d.pixel d.road)

-- n numbers from i on
abbrev pub from_on : ℕ → ℕ → List ℕ
from_on i zero = []
from_on i (suc n) = i ∷ from_on (suc i) n

abbrev pub up_to : ℕ → List ℕ
up_to n = from_on 0 n

abbrev pub darts_on : Sheet → ℕ → Road → List Dart
darts_on s p q = map (dart p q) (up_to (count_at s p q))

abbrev pub darts_in : Sheet → ℕ → List Dart
darts_in s p = flat_map (darts_on s p) roads

abbrev pub darts : Sheet → List Dart
darts s = flat_map (darts_in s) (up_to (pixels s))

abbrev pub or_first : Option ℕ → ℕ
or_first None = 0
or_first (Some i) = i

abbrev pub crossing_of : Sheet → Dart → ℕ
crossing_of s d = or_first (crossing_at (drawing_at s d.pixel) (road_code d.road) d.place)

abbrev pub leaving : ℕ → Drawing → ℕ → Dart
leaving p d i = dart p (slice_index_or roads (at d i).road West) (count_on (at d i).road (take i d))

abbrev pub dart_of : Sheet → ℕ → ℕ → Dart
dart_of s p i = leaving p (drawing_at s p) i

abbrev pub turn : Sheet → Dart → Dart
turn s d = dart_of s d.pixel (before (drawing_at s d.pixel) (crossing_of s d))

abbrev pub unturn : Sheet → Dart → Dart
unturn s d = dart_of s d.pixel (after (drawing_at s d.pixel) (crossing_of s d))

-- places run the other way on the far side of a road
abbrev pub opposite_of : Sheet → Dart → Dart
opposite_of s d = dart (beyond s d.pixel d.road) (facing d.road) (count_at s d.pixel d.road - 1 - d.place)

abbrev pub next_of : Sheet → Dart → Dart
next_of s d = turn s (opposite_of s d)

abbrev pub previous_of : Sheet → Dart → Dart
previous_of s d = opposite_of s (unturn s d)

-- the road of the dart e is the one to be passed
abbrev pub over : Sheet → Dart → Dart → Dart → Result Dart Refusal
over s d e given =
    cond (is_dart s d) (cond (fails s e.pixel e.road) (Err (RoadFails e.pixel e.road)) (Ok given)) (Err NoDart)

abbrev pub opposite : Sheet → Dart → Result Dart Refusal
opposite s d = over s d d (opposite_of s d)

abbrev pub next : Sheet → Dart → Result Dart Refusal
next s d = over s d d (next_of s d)

abbrev pub previous : Sheet → Dart → Result Dart Refusal
previous s d = over s d (unturn s d) (previous_of s d)
