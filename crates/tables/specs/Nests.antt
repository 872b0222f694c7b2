-- The test for crossing groups with a stack, over the first record of each record's group.
--   within: whether a number stands in a list
--   firsts_in: the first record of a record's group
--   firsts: the first record of its group, for each record
--   inner: the open groups after a record of a group that is open
--   turn: the open groups, innermost first, after one record more; nothing where groups cross
--   nests: whether no groups cross, by going over all records
--   Lasts: for each number below a bound, a place where the same number stands last
use Rattle.std.specs.Prelude.{◌≡◌, ℕ, suc, ◌<◌, ◌≤◌, Bool, true, false, cond, ◌||◌, List, [], ◌∷◌, map, Some, None, Option, ◌==◌, slice_index}
use Rattle.symbols.specs.declared.symbols.Crossing.{Crossing}
use Rattle.rules.specs.Tables.{first_of}

abbrev pub within : ℕ → List ℕ → Bool
within g [] = false
within g (x ∷ xs) = g == x || within g xs

-- the number of the first record of its group, for each record
abbrev pub firsts_in : List Crossing → Crossing → ℕ
firsts_in t c = first_of c.group t

abbrev pub firsts : List Crossing → List ℕ
firsts t = map (firsts_in t) t

-- Record k is of a group that is open: it has to be the innermost, and goes on or is closed.
abbrev pub inner : ℕ → Bool → List ℕ → Option (List ℕ)
inner g more [] = None
inner g more (h ∷ st) = cond (g == h) (Some (cond more (h ∷ st) st)) None

-- The open groups, innermost first, after record k of the group g that goes on or does not; None where groups cross.
abbrev pub turn : ℕ → ℕ → Bool → Option (List ℕ) → Option (List ℕ)
turn k g more None = None
turn k g more (Some st) = cond (g == k) (Some (cond more (g ∷ st) st)) (inner g more st)

abbrev pub nests : ℕ → Option (List ℕ) → List ℕ → Bool
nests k None [] = false
nests k (Some st) [] = true
nests k o (g ∷ gs) = nests (suc k) (turn k g (within g gs) o) gs

abbrev pub Lasts : List ℕ → List ℕ → ℕ → Type 0
Lasts xs lasts n =
    (j : ℕ) → j < n → (j ≤ slice_index lasts (slice_index xs j)) × (slice_index lasts (slice_index xs j) < n) × (slice_index xs (slice_index lasts (slice_index xs j)) ≡ slice_index xs j)
