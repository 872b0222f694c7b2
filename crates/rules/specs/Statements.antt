-- The theorems, as the contracts of the crate name them.
--   TextsComeBack: texts of known symbols and lists of symbols answer each other
--   WordsComeBack: built from what is read back from it, a lawful word is the same, and its table means a drawing
--   TablesComeBack: the word built from a table is lawful and draws what the table means
--   RulesAreTold: a table has no fault exactly when it means a drawing
--   DrawingsAreTold: equal drawings have as many crossings on each road, the same together, the same with a vertex;
--     so have the words that are equal, and no others
--   Turns, StepsUndo: the step inside a pixel and the step that undoes it stay in the group
--   PlacesComeBack: crossing numbers and places of roads answer each other
--   exits: where lines that enter at the crossings leave
--   word_example, table_example, of_word, of_table: what an example says of a word's text, of a table
--   four_on_w: a table of four records on W
--   AllHold: each pair is of two equal things
--   Examples: the worked examples
use Rattle.std.specs.Prelude.{◌≡◌, ℕ, zero, suc, ◌+◌, ◌<◌, true, ◌↔◌, List, [], ◌∷◌, length, Some, None, Ok, Err, codes, Result}
use Rattle.symbols.specs.declared.refusals.Refusal.{Refusal}
use Rattle.symbols.specs.declared.symbols.Crossing.{Crossing}
use Rattle.symbols.specs.declared.symbols.Symbol.{Symbol}
use Rattle.symbols.specs.Refusals.{number}
use Rattle.symbols.specs.Symbols.{spelt, text}
use Rattle.rules.specs.Words.{Lawful, crossing, drawing_of, drawn, read_word}
use Rattle.rules.specs.Tables.{Means, fault, canonical, build_word}
use Rattle.rules.specs.Crossings.{SameDrawing, before, after, group_at, place_of, crossing_at, leaves_at, enters_at}

abbrev pub TextsComeBack : Type 0
TextsComeBack =
    ((w : List Symbol) → spelt (text w) ≡ Some w)
    × ((cs : List ℕ) (w : List Symbol) → spelt cs ≡ Some w → text w ≡ cs)

abbrev pub WordsComeBack : Type 0
WordsComeBack =
    (w : List Symbol) → Lawful w → (drawing_of w ≡ Some (drawn w)) × Means (drawn w) × (canonical (drawn w) ≡ drawn w) × (build_word (drawn w) ≡ Ok w)

abbrev pub TablesComeBack : Type 0
TablesComeBack =
    (t : List Crossing) (w : List Symbol) → build_word t ≡ Ok w → Lawful w × (drawing_of w ≡ Some (canonical t)) × (length w ≡ length t + 4)

abbrev pub RulesAreTold : Type 0
RulesAreTold = (t : List Crossing) → (fault t ≡ None) ↔ Means t

abbrev pub DrawingsAreTold : Type 0
DrawingsAreTold =
    ((s t : List Crossing) → Means s → Means t → (canonical s ≡ canonical t) ↔ SameDrawing s t)
    × ((v w : List Symbol) → Lawful v → Lawful w → ((v ≡ w) ↔ (drawn v ≡ drawn w)) × ((v ≡ w) ↔ SameDrawing (drawn v) (drawn w)))

pub record Turns (d : List Crossing) (i : ℕ) : Type 0 where
  pub back : after d (before d i) ≡ i
  pub forth : before d (after d i) ≡ i
  pub before_in : before d i < length d
  pub after_in : after d i < length d
  pub before_group : group_at d (before d i) ≡ group_at d i
  pub after_group : group_at d (after d i) ≡ group_at d i

-- for any crossings, also where they mean no drawing
abbrev pub StepsUndo : Type 0
StepsUndo =
    ((d : List Crossing) (i : ℕ) → i < length d → Turns d i)
    × ((d : List Crossing) (i j : ℕ) → (leaves_at d i ≡ Some j) ↔ (enters_at d j ≡ Some i))

abbrev pub PlacesComeBack : Type 0
PlacesComeBack = (d : List Crossing) (i q p : ℕ) → (place_of d i ≡ Some (q, p)) ↔ (crossing_at d q p ≡ Some i)

-- where lines that enter at the crossings from i on leave
abbrev pub exits : List Crossing → ℕ → ℕ → List ℕ
exits d zero i = []
exits d (suc n) i = before d i ∷ exits d n (suc i)

-- a text is a word and lines that enter at 0, 1, 2 .. leave there, or it is refused with a number
abbrev pub word_example : Result (List Symbol) Refusal → Result (List ℕ) ℕ
word_example (Ok w) = Ok (exits (drawn w) (length (drawn w)) 0)
word_example (Err f) = Err (number f)

-- four records on W with vertices, in four groups, build a word of this text, or are refused with a number
abbrev pub four_on_w : ℕ → ℕ → ℕ → ℕ → List Crossing
four_on_w a b c d = crossing 0 a true ∷ crossing 0 b true ∷ crossing 0 c true ∷ crossing 0 d true ∷ []

abbrev pub table_example : Result (List Symbol) Refusal → Result (List ℕ) ℕ
table_example (Ok w) = Ok (text w)
table_example (Err f) = Err (number f)

-- each pair is of two equal things
abbrev pub AllHold : List (Result (List ℕ) ℕ × Result (List ℕ) ℕ) → Type 0
AllHold [] = Unit {0}
AllHold (e ∷ es) = (e.0 ≡ e.1) × AllHold es

abbrev pub of_word : List ℕ → Result (List ℕ) ℕ
of_word cs = word_example (read_word cs)

abbrev pub of_table : List Crossing → Result (List ℕ) ℕ
of_table t = table_example (build_word t)

abbrev pub Examples : Type 0
Examples =
    AllHold (
    (of_word (codes "++++"), Ok [])
    ∷ (of_word (codes "+++"), Err 3)
    ∷ (of_word (codes "+++++"), Err 3)
    ∷ (of_word (codes "(([=+]+Y+))+"), Ok (7 ∷ 6 ∷ 4 ∷ 3 ∷ 2 ∷ 1 ∷ 5 ∷ 0 ∷ []))
    ∷ (of_word (codes "=(Y+Y[(+)[+]])+"), Ok (0 ∷ 10 ∷ 1 ∷ 2 ∷ 9 ∷ 6 ∷ 5 ∷ 8 ∷ 7 ∷ 4 ∷ 3 ∷ []))
    ∷ (of_word (codes "=Y+Y[(+)[+]]+"), Err 4)
    ∷ (of_word (codes "[Y]++++"), Err 4)
    ∷ (of_word (codes "[+)+++"), Err 4)
    ∷ (of_table (four_on_w 1 2 2 1), Ok (codes "(())++++"))
    ∷ (of_table (four_on_w 1 2 1 2), Err 10)
    ∷ [])
