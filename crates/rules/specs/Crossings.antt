-- The crossings of one pixel: the step inside it, and roads and places.
--   group_at: the group of a crossing
--   latest, soonest: the largest number below a bound, the smallest from a start on, that is of a group
--   before: counterclockwise before a crossing in its group; before the group's first stands its last
--   after: clockwise after a crossing in its group; after the group's last stands its first
--   where_in: an answer for the crossings that there are
--   leaves_at: the step inside a pixel: where a line that enters at a crossing leaves
--   enters_at: the step that undoes it
--   vertex_at: whether a crossing's group has a vertex
--   count_on: how many crossings a road has
--   place_of: the road of a crossing and its place there: how many crossings of that road stand before it
--   one_on: a number one further on
--   crossing_at: the crossing at a place of a road
--   SameDrawing: as many crossings on each road, the same crossings together, the same ones with a vertex
use Rattle.std.specs.Prelude.{◌≡◌, ℕ, zero, suc, ◌-◌, ◌<◌, Bool, cond, ◌↔◌, List, [], ◌∷◌, length, take, Some, None, Option, ◌==◌, nat_lt}
use Rattle.symbols.specs.declared.symbols.Crossing.{Crossing}
use Rattle.rules.specs.Tables.{at}

abbrev pub group_at : List Crossing → ℕ → ℕ
group_at d i = (at d i).group

-- z where there is none
abbrev pub latest : (ℕ → ℕ) → ℕ → ℕ → ℕ → ℕ
latest f g z zero = z
latest f g z (suc j) = cond (f j == g) j (latest f g z j)

-- of the m numbers from j on; z where there is none
abbrev pub soonest : (ℕ → ℕ) → ℕ → ℕ → ℕ → ℕ → ℕ
soonest f g z zero j = z
soonest f g z (suc m) j = cond (f j == g) j (soonest f g z m (suc j))

abbrev pub before : List Crossing → ℕ → ℕ
before d i = latest (group_at d) (group_at d i) (latest (group_at d) (group_at d i) i (length d)) i

abbrev pub after : List Crossing → ℕ → ℕ
after d i =
    soonest (group_at d) (group_at d i) (soonest (group_at d) (group_at d i) i (length d) 0) (length d - suc i) (suc i)

-- an answer for the crossings that there are
abbrev pub where_in : {A : Type 0} → List Crossing → ℕ → A → Option A
where_in d i x = cond (nat_lt i (length d)) (Some x) None

abbrev pub leaves_at : List Crossing → ℕ → Option ℕ
leaves_at d i = where_in d i (before d i)

abbrev pub enters_at : List Crossing → ℕ → Option ℕ
enters_at d i = where_in d i (after d i)

abbrev pub vertex_at : List Crossing → ℕ → Option Bool
vertex_at d i = where_in d i (at d i).vertex

abbrev pub count_on : ℕ → List Crossing → ℕ
count_on q [] = 0
count_on q (c ∷ cs) = cond (q == c.road) (suc (count_on q cs)) (count_on q cs)

abbrev pub place_of : List Crossing → ℕ → Option (ℕ × ℕ)
place_of d i = where_in d i ((at d i).road, count_on (at d i).road (take i d))

abbrev pub one_on : Option ℕ → Option ℕ
one_on None = None
one_on (Some i) = Some (suc i)

abbrev pub crossing_at : List Crossing → ℕ → ℕ → Option ℕ
crossing_at [] q p = None
crossing_at (c ∷ d) q zero = cond (q == c.road) (Some 0) (one_on (crossing_at d q zero))
crossing_at (c ∷ d) q (suc p) = one_on (crossing_at d q (cond (q == c.road) p (suc p)))

pub record SameDrawing (s t : List Crossing) : Type 0 where
  pub counts : (q : ℕ) → q < 4 → count_on q s ≡ count_on q t
  pub groups : (i j : ℕ) → i < length s → j < length s → (group_at s i ≡ group_at s j) ↔ (group_at t i ≡ group_at t j)
  pub vertices : (i : ℕ) → i < length s → (at s i).vertex ≡ (at t i).vertex
