-- Crossing tables, the drawings that they mean, and the words built from them.
--   blank: what stands for a record that there is not
--   at: the record at a number
--   size_of: how many records a group has
--   roads_break: a road above 3, or below the one before it
--   some_below: some number below a bound passes a test
--   together: two records are of one group
--   flags_break: two records of one group with different flags
--   pairs_break: a group without a vertex that is not of two records
--   groups_cross: records a < b < c < d with a and c in one group, b and d in another
--   fault: the first rule that a table breaks
--   first_of: the number of a group's first record
--   named: a record whose group goes by its first record
--   canonical: the drawing that a table means: each group goes by its first record
--   mentions: some crossing is of a group
--   symbol_at: the symbol of a crossing
--   writes: the word from a crossing on
--   word_of: the word of a drawing
--   unless: a value, or the refusal where there is one
--   build_word: the word built from a table, or why the table means no drawing
--   Rising, Flagged, Paired, Uncrossed, Means: the rules as statements
use Rattle.std.specs.Prelude.{◌≡◌, ℕ, zero, suc, ◌-◌, ◌<◌, ◌≤◌, Bool, true, false, cond, not, ◌&&◌, ◌||◌, ◌≢◌, List, [], ◌∷◌, ◌++◌, map, length, replicate, Some, None, Ok, Err, Option, Result, ◌==◌, nat_lt, slice_index_or}
use Rattle.std.specs.Bool.{beq}
use Rattle.symbols.specs.declared.refusals.Refusal.{Refusal}
use Rattle.symbols.specs.declared.refusals.Refusal.TheVariants.{Roads, Flags, Pairs, Crossed}
use Rattle.symbols.specs.declared.symbols.Crossing.{Crossing}
use Rattle.symbols.specs.declared.symbols.Symbol.{Symbol}
use Rattle.symbols.specs.declared.symbols.Symbol.TheVariants.{Corner, DeadEnd, SplitOpen, SplitClose, JunctionOpen, Branch, JunctionClose}
use Rattle.rules.specs.Words.{Drawing, crossing}

abbrev pub blank : Crossing
blank = crossing 0 0 false

abbrev pub at : List Crossing → ℕ → Crossing
at t i = slice_index_or t i blank

abbrev pub size_of : ℕ → List Crossing → ℕ
size_of g [] = 0
size_of g (c ∷ cs) = cond (g == c.group) (suc (size_of g cs)) (size_of g cs)

-- r is the road before
abbrev pub roads_break : ℕ → List Crossing → Bool
roads_break r [] = false
roads_break r (c ∷ cs) = (nat_lt 3 c.road || nat_lt c.road r) || roads_break c.road cs

abbrev pub some_below : ℕ → (ℕ → Bool) → Bool
some_below zero p = false
some_below (suc n) p = p n || some_below n p

abbrev pub together : List Crossing → ℕ → ℕ → Bool
together t i j = (at t i).group == (at t j).group

abbrev pub flags_break : List Crossing → Bool
flags_break t =
    some_below (length t) (λ j. some_below j (λ i. together t i j && not (beq (at t i).vertex (at t j).vertex)))

abbrev pub pairs_break : List Crossing → Bool
pairs_break t = some_below (length t) (λ i. not (at t i).vertex && not (size_of (at t i).group t == 2))

abbrev pub groups_cross : List Crossing → Bool
groups_cross t =
    some_below (length t) (λ d. some_below d (λ c. some_below c (λ b. some_below b (λ a.
    (together t a c && together t b d) && not (together t a b)))))

abbrev pub fault : List Crossing → Option Refusal
fault t =
    cond (nat_lt 60 (length t) || roads_break 0 t) (Some Roads)
    (cond (flags_break t) (Some Flags) (cond (pairs_break t) (Some Pairs) (cond (groups_cross t) (Some Crossed) None)))

abbrev pub first_of : ℕ → List Crossing → ℕ
first_of g [] = 0
first_of g (c ∷ cs) = cond (g == c.group) 0 (suc (first_of g cs))

abbrev pub named : List Crossing → Crossing → Crossing
named t c = crossing c.road (first_of c.group t) c.vertex

abbrev pub canonical : List Crossing → Drawing
canonical t = map (named t) t

-- whether some crossing is of the group that begins at g
abbrev pub mentions : ℕ → Drawing → Bool
mentions g [] = false
mentions g (c ∷ d) = g == c.group || mentions g d

-- has its group a vertex, is it the first of its group, does another of its group follow
-- (a crossing alone in its group, or between two others of it, has a vertex where a table means a drawing)
abbrev pub symbol_at : Bool → Bool → Bool → Symbol
symbol_at true true true = JunctionOpen
symbol_at true true false = DeadEnd
symbol_at true false true = Branch
symbol_at true false false = JunctionClose
symbol_at false true true = SplitOpen
symbol_at false true false = DeadEnd
symbol_at false false true = Branch
symbol_at false false false = SplitClose

-- from crossing k on, after the corner at which road r begins
abbrev pub writes : ℕ → ℕ → Drawing → List Symbol
writes r k [] = replicate (4 - r) Corner
writes r k (c ∷ d) =
    replicate (c.road - r) Corner
    ++ (symbol_at c.vertex (c.group == k) (mentions c.group d) ∷ writes c.road (suc k) d)

abbrev pub word_of : Drawing → List Symbol
word_of d = writes 0 0 d

abbrev pub unless : {A : Type 0} → Option Refusal → A → Result A Refusal
unless None x = Ok x
unless (Some f) x = Err f

abbrev pub build_word : List Crossing → Result (List Symbol) Refusal
build_word t = unless (fault t) (word_of (canonical t))

-- The roads are 0 to 3 and never fall.
abbrev pub Rising : List Crossing → Type 0
Rising t =
    ((i : ℕ) → i < length t → (at t i).road ≤ 3)
    × ((i j : ℕ) → i < j → j < length t → (at t i).road ≤ (at t j).road)

-- The flags of a group agree.
abbrev pub Flagged : List Crossing → Type 0
Flagged t = (i j : ℕ) → i < length t → j < length t → (at t i).group ≡ (at t j).group → (at t i).vertex ≡ (at t j).vertex

-- A group without a vertex has two records.
abbrev pub Paired : List Crossing → Type 0
Paired t = (i : ℕ) → i < length t → (at t i).vertex ≡ false → size_of (at t i).group t ≡ 2

-- No groups cross.
abbrev pub Uncrossed : List Crossing → Type 0
Uncrossed t =
    (a b c d : ℕ) → a < b → b < c → c < d → d < length t → (at t a).group ≡ (at t c).group → (at t b).group ≡ (at t d).group → (at t a).group ≢ (at t b).group → ⊥

-- The table means a drawing.
pub record Means (t : List Crossing) : Type 0 where
  pub few : length t ≤ 60
  pub roads : Rising t
  pub flags : Flagged t
  pub pairs : Paired t
  pub uncrossed : Uncrossed t
