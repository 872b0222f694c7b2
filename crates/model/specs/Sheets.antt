-- Sheets of pixels, and how pixels lie.
--   most_side: the largest width and height
--   Sheet: a size and one drawing for each pixel, in the order of pixel numbers
--   IsDrawing: a list of crossings that means a drawing, in which a group's number is its first crossing
--   Sheetly: a sheet is one: its sides are 1 to 64 and each pixel has a drawing
--   pixels: how many pixels a sheet has
--   drawing_at: the drawing of a pixel, whose number is row × width + column, row 0 in the north, column 0 in the west
--   on_rim: whether a pixel's road lies on the sheet's rim
--   beyond: the pixel on the other side of a road that is not on the rim
--   facing: the road by which that pixel is entered: W faces E, N faces S
--   count_at: how many crossings a pixel counts on a road
--   fails: a road is on the rim and has a crossing, or its two pixels count it differently
use Rattle.std.specs.Prelude.{◌≡◌, ℕ, ◌+◌, ◌-◌, ◌*◌, ◌%◌, ◌≤◌, Bool, cond, not, List, [], length, ◌==◌, nat_lt, slice_index_or}
use Rattle.std.specs.List.{AllByRecursion}
use Rattle.symbols.specs.declared.roads.Road.{Road}
use Rattle.symbols.specs.declared.roads.Road.TheVariants.{West, North, East, South}
use Rattle.symbols.specs.Symbols.{road_code}
use Rattle.rules.specs.Words.{Drawing}
use Rattle.rules.specs.Tables.{Means, canonical}
use Rattle.rules.specs.Crossings.{count_on}

abbrev pub most_side : ℕ
most_side = 64

pub record Sheet : Type 0 where
  pub width : ℕ
  pub height : ℕ
  pub drawings : List Drawing

abbrev pub IsDrawing : Drawing → Type 0
IsDrawing d = Means d × (canonical d ≡ d)

abbrev pub pixels : Sheet → ℕ
pixels s = s.width * s.height

pub record Sheetly (s : Sheet) : Type 0 where
  pub some_width : 1 ≤ s.width
  pub most_width : s.width ≤ most_side
  pub some_height : 1 ≤ s.height
  pub most_height : s.height ≤ most_side
  pub whole : length s.drawings ≡ pixels s
  pub drawn : AllByRecursion IsDrawing s.drawings

abbrev pub drawing_at : Sheet → ℕ → Drawing
drawing_at s p = slice_index_or s.drawings p []

abbrev pub on_rim : Sheet → ℕ → Road → Bool
on_rim s p West = p % s.width == 0
on_rim s p North = nat_lt p s.width
on_rim s p East = p % s.width + 1 == s.width
on_rim s p South = not (nat_lt (p + s.width) (pixels s))

abbrev pub beyond : Sheet → ℕ → Road → ℕ
beyond s p West = p - 1
beyond s p North = p - s.width
beyond s p East = p + 1
beyond s p South = p + s.width

abbrev pub facing : Road → Road
facing West = East
facing North = South
facing East = West
facing South = North

abbrev pub count_at : Sheet → ℕ → Road → ℕ
count_at s p q = count_on (road_code q) (drawing_at s p)

abbrev pub fails : Sheet → ℕ → Road → Bool
fails s p q = cond (on_rim s p q) (nat_lt 0 (count_at s p q)) (not (count_at s p q == count_at s (beyond s p q) (facing q)))
