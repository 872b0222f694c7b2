-- Rings, the check, sidewalks, the street list, roots and counts.
--   leaves_vertex: whether a dart leaves a group that has a vertex
--   circles: the darts of a sheet with next, cut where a dart leaves a vertex
--   on_ring: a dart goes round by next through groups without a vertex
--   first_that: the first of a list that passes a test
--   sides: the pixels' roads, by pixel, then W, N, E, S
--   side_fails: whether a pixel's road fails
--   ring_refused, road_refused: refused with the place that was found, if one was
--   check: the first failing road, then the first dart on a ring, else it passes
--   given_if: a value where nothing was refused
--   checked: what is given where the check passes, else refused as the check
--   street_lines: for each sidewalk, by first dart, its darts and next of the last one
--   item: a dart as text: pixel, road letter, place
--   line_text, list_text: a line and a whole list as bytes
--   street_list: the street list of a sheet, refused as the check
--   lesser: the smaller of two darts
--   then_go: going on where nothing was refused
--   goes_round, root: the smallest dart of a dart's loop, by going on until it is home; 11 and 12 as next, at any step
--   vertices: how many groups with a vertex a drawing has
--   Counts, count: vertices, streets (half the sidewalks) and loops of a sheet, refused as the check
use Rattle.std.specs.Prelude.{ℕ, zero, suc, ◌/◌, Bool, cond, ◌&&◌, List, [], ◌∷◌, ◌++◌, map, length, Some, None, Ok, Err, decimal, sum, filter, Option, Result, ◌==◌}
use Rattle.std.specs.List.{flat_map}
use Rattle.symbols.specs.declared.refusals.Refusal.{Refusal}
use Rattle.symbols.specs.declared.refusals.Refusal.TheVariants.{NoDart, RoadFails, OnRing}
use Rattle.symbols.specs.declared.roads.Road.{Road}
use Rattle.symbols.specs.Symbols.{roads, road_letter}
use Rattle.rules.specs.Words.{Drawing}
use Rattle.rules.specs.Tables.{at}
use Rattle.orbits.specs.Orbits as orbit
use Rattle.orbits.specs.Statements as loops
use Rattle.model.specs.declared.darts.Dart.{Dart}
use Rattle.model.specs.Sheets.{Sheet, pixels, drawing_at, fails}
use Rattle.model.specs.Darts.{same_dart, dart_le, is_dart, up_to, darts, crossing_of, next_of, next}

abbrev pub leaves_vertex : Sheet → Dart → Bool
leaves_vertex s d = (at (drawing_at s d.pixel) (crossing_of s d)).vertex

abbrev pub circles : Sheet → orbit.System Dart
circles s = record { same = same_dart; darts = darts s; next = next_of s; starts = leaves_vertex s }

abbrev pub on_ring : Sheet → Dart → Bool
on_ring s d = orbit.ring (circles s) d

abbrev pub first_that : {A : Type 0} → (A → Bool) → List A → Option A
first_that p [] = None
first_that p (x ∷ xs) = cond (p x) (Some x) (first_that p xs)

abbrev pub sides : Sheet → List (ℕ × Road)
sides s = flat_map (λ p. map (λ (q : Road). (p, q)) roads) (up_to (pixels s))

abbrev pub side_fails : Sheet → ℕ × Road → Bool
side_fails s x = fails s x.0 x.1

abbrev pub ring_refused : Option Dart → Result (Unit {0}) Refusal
ring_refused None = Ok tt
ring_refused (Some d) = Err (OnRing d.pixel d.road d.place)

abbrev pub road_refused : Option (ℕ × Road) → Result (Unit {0}) Refusal → Result (Unit {0}) Refusal
road_refused None r = r
road_refused (Some x) r = Err (RoadFails x.0 x.1)

abbrev pub check : Sheet → Result (Unit {0}) Refusal
check s = road_refused (first_that (side_fails s) (sides s)) (ring_refused (first_that (on_ring s) (darts s)))

abbrev pub given_if : {A : Type 0} → Result (Unit {0}) Refusal → A → Result A Refusal
given_if (Ok u) x = Ok x
given_if (Err f) x = Err f

abbrev pub checked : {A : Type 0} → Sheet → A → Result A Refusal
checked s x = given_if (check s) x

abbrev pub street_lines : Sheet → List (List Dart × Dart)
street_lines s = orbit.lines (circles s)

abbrev pub item : Dart → List ℕ
item d = decimal d.pixel ++ (road_letter d.road ∷ decimal d.place)

abbrev pub line_text : List Dart × Dart → List ℕ
line_text l = flat_map (λ d. item d ++ (32 ∷ [])) l.0 ++ (62 ∷ 32 ∷ (item l.1 ++ (10 ∷ [])))

abbrev pub list_text : ℕ → ℕ → List (List Dart × Dart) → List ℕ
list_text w h ls = decimal w ++ (32 ∷ (decimal h ++ (10 ∷ flat_map line_text ls)))

abbrev pub street_list : Sheet → Result (List ℕ) Refusal
street_list s = checked s (list_text s.width s.height (street_lines s))

abbrev pub lesser : Dart → Dart → Dart
lesser c d = cond (dart_le c d) c d

abbrev pub then_go : Result Dart Refusal → (Dart → Result Dart Refusal) → Result Dart Refusal
then_go (Ok d) f = f d
then_go (Err f) k = Err f

-- from d on, until it is home at h, with the smallest dart so far
abbrev pub goes_round : Sheet → ℕ → Dart → Dart → Dart → Result Dart Refusal
goes_round s zero h d low = Ok low
goes_round s (suc n) h d low = then_go (next s d) (λ e. cond (same_dart e h) (Ok low) (goes_round s n h e (lesser low e)))

abbrev pub root : Sheet → Dart → Result Dart Refusal
root s d = cond (is_dart s d) (goes_round s (length (darts s)) d d d) (Err NoDart)

-- a group goes by its first crossing
abbrev pub vertices : Drawing → ℕ
vertices d = length (filter (λ i. ((at d i).group == i) && (at d i).vertex) (up_to (length d)))

pub record Counts : Type 0 where
  pub vertex_count : ℕ
  pub street_count : ℕ
  pub loop_count : ℕ

-- a loop has one dart that is its root
abbrev pub counts : Sheet → Counts
counts s = record {
  vertex_count = sum (map vertices s.drawings);
  street_count = length (orbit.begins (circles s)) / 2;
  loop_count = length (filter (λ d. same_dart (loops.root (circles s) dart_le d) d) (darts s));
}

abbrev pub count : Sheet → Result Counts Refusal
count s = checked s (counts s)
