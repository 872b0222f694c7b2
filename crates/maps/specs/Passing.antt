-- How code asks about darts: by drawings and by counts.
--   neighbour: the pixel beyond a road; none on the rim
--   counts_fail: whether a road fails, by its count here and by its count there, if there is a pixel beyond it
--   far_count: the count of a road on its far side, if there is a pixel beyond it
--   crossing_in: the crossing of a dart, by the drawing of its pixel
--   turn_in, unturn_in: the turns, by the drawing of the pixel
--   Left: a dart leaves a pixel that is drawn so
--   EnteredBy: the opposite dart of one whose road does not fail, and the drawing of its pixel
use Rattle.std.specs.Prelude.{◌≡◌, ℕ, Bool, true, false, cond, not, Some, None, Option, ◌==◌, nat_lt}
use Rattle.symbols.specs.declared.roads.Road.{Road}
use Rattle.symbols.specs.Symbols.{road_code}
use Rattle.rules.specs.Words.{Drawing}
use Rattle.rules.specs.Crossings.{before, after, crossing_at}
use Rattle.model.specs.declared.darts.Dart.{Dart}
use Rattle.model.specs.Sheets.{Sheet, drawing_at, on_rim, beyond, facing, count_at, fails}
use Rattle.model.specs.Darts.{is_dart, or_first, leaving, opposite_of}

abbrev pub neighbour : Sheet → ℕ → Road → Option ℕ
neighbour s p q = cond (on_rim s p q) None (Some (beyond s p q))

abbrev pub counts_fail : ℕ → Option ℕ → Bool
counts_fail n None = nat_lt 0 n
counts_fail n (Some m) = not (n == m)

abbrev pub far_count : Sheet → ℕ → Road → Option ℕ
far_count s p q = cond (on_rim s p q) None (Some (count_at s (beyond s p q) (facing q)))

abbrev pub crossing_in : Drawing → Dart → ℕ
crossing_in d c = or_first (crossing_at d (road_code c.road) c.place)

abbrev pub turn_in : Drawing → Dart → Dart
turn_in d c = leaving c.pixel d (before d (crossing_in d c))

abbrev pub unturn_in : Drawing → Dart → Dart
unturn_in d c = leaving c.pixel d (after d (crossing_in d c))

pub record Left (s : Sheet) (c : Dart) (d : Drawing) : Type 0 where
  pub is : is_dart s c ≡ true
  pub drawn : d ≡ drawing_at s c.pixel

pub record EnteredBy (s : Sheet) (c e : Dart) (d : Drawing) : Type 0 where
  pub free : fails s c.pixel c.road ≡ false
  pub opposite : e ≡ opposite_of s c
  pub drawn : d ≡ drawing_at s e.pixel
