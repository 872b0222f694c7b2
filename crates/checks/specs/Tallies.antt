-- What is counted over the darts of a sheet.
--   reaches, begins, roots: what a dart adds: the darts of the sidewalk that it begins; one for that sidewalk; one for the
--     loop of which it is the smallest
--   Computes: what calls may give at a dart is a function of it
--   reached, as_many: how many darts the sidewalks have; how many darts there are
use Rattle.std.specs.Prelude.{◌≡◌, ℕ, true, cond, length, sum_by}
use Rattle.orbits.specs.Orbits.{sidewalk}
use Rattle.orbits.specs.Statements.{root}
use Rattle.model.specs.declared.darts.Dart.{Dart}
use Rattle.model.specs.Sheets.{Sheet}
use Rattle.model.specs.Darts.{same_dart, dart_le, is_dart, darts}
use Rattle.model.specs.Streets.{leaves_vertex, circles}

abbrev pub reaches : Sheet → Dart → ℕ
reaches s d = cond (leaves_vertex s d) (length (sidewalk (circles s) d)) 0

abbrev pub begins : Sheet → Dart → ℕ
begins s d = cond (leaves_vertex s d) 1 0

abbrev pub roots : Sheet → Dart → ℕ
roots s d = cond (same_dart (root (circles s) dart_le d) d) 1 0

abbrev pub Computes : Sheet → (Dart → ℕ → Type 0) → (Dart → ℕ) → Type 0
Computes s gives f = (d : Dart) (n : ℕ) → is_dart s d ≡ true → gives d n → n ≡ f d

abbrev pub reached : Sheet → ℕ
reached s = sum_by (reaches s) (darts s)

abbrev pub as_many : Sheet → ℕ
as_many s = sum_by (λ (d : Dart). 1) (darts s)
