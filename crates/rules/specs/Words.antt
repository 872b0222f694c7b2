-- Words, and the drawings that they mean.
--   Drawing: the crossings of a pixel in clockwise order, each with its road, its group and whether that has a vertex;
--     a group's number is its first crossing, so that two drawings are the same exactly when they are equal
--   is_corner: a symbol is a corner
--   corners: how many corners a word has
--   ends: whether its last symbol is a corner
--   shaped: 4 to 64 symbols, four of them corners, one of these last
--   crossing: a crossing by its road, group and vertex
--   put: a crossing before a drawing, if there is one
--   reads: what symbols draw, read from left to right with the marks that are open
--   drawing_of: what a word draws; nothing where it does not read through
--   or_empty: a drawing, or the empty one where there is none
--   drawn: the same, empty where the word does not read through
--   lawful: shaped, and it reads through
--   Lawful: the statement of it
--   judged: a word, or why its symbols are none
--   judged_spelt: the same of the symbols of a text, if each character is one
--   read_word: the word of a text, or why the text is none
use Rattle.std.specs.Prelude.{◌≡◌, ℕ, suc, Bool, true, false, cond, ◌&&◌, List, [], ◌∷◌, length, is_some, Some, None, Ok, Err, Option, Result, ◌==◌, nat_le}
use Rattle.symbols.specs.declared.refusals.Refusal.{Refusal}
use Rattle.symbols.specs.declared.refusals.Refusal.TheVariants.{NoWord, Unlawful}
use Rattle.symbols.specs.declared.symbols.Crossing.{Crossing}
use Rattle.symbols.specs.declared.symbols.Mark.{Mark}
use Rattle.symbols.specs.declared.symbols.Mark.TheVariants.{Split, Junction}
use Rattle.symbols.specs.declared.symbols.Symbol.{Symbol}
use Rattle.symbols.specs.declared.symbols.Symbol.TheVariants.{Corner, DeadEnd, SplitOpen, SplitClose, JunctionOpen, Branch, JunctionClose}
use Rattle.symbols.specs.Symbols.{spelt}

abbrev pub Drawing : Type 0
Drawing = List Crossing

abbrev pub is_corner : Symbol → Bool
is_corner Corner = true
is_corner DeadEnd = false
is_corner SplitOpen = false
is_corner SplitClose = false
is_corner JunctionOpen = false
is_corner Branch = false
is_corner JunctionClose = false

abbrev pub corners : List Symbol → ℕ
corners [] = 0
corners (s ∷ w) = cond (is_corner s) (suc (corners w)) (corners w)

-- b answers for the empty word
abbrev pub ends : Bool → List Symbol → Bool
ends b [] = b
ends b (s ∷ w) = ends (is_corner s) w

abbrev pub shaped : List Symbol → Bool
shaped w = (nat_le 4 (length w) && nat_le (length w) 64) && (corners w == 4 && ends false w)

-- a crossing on road r, of the group that begins at crossing g
abbrev pub crossing : ℕ → ℕ → Bool → Crossing
crossing r g v = record { road = r; group = g; vertex = v }

abbrev pub put : Crossing → Option Drawing → Option Drawing
put c None = None
put c (Some d) = Some (c ∷ d)

-- from road r on, with k the number of the next crossing and the open marks, the innermost first
abbrev pub reads : ℕ → ℕ → List Mark → List Symbol → Option Drawing
reads r k [] [] = Some []
reads r k (m ∷ st) [] = None
reads r k st (Corner ∷ w) = reads (suc r) k st w
reads r k st (DeadEnd ∷ w) = put (crossing r k true) (reads r (suc k) st w)
reads r k st (SplitOpen ∷ w) = put (crossing r k false) (reads r (suc k) (Split k ∷ st) w)
reads r k st (JunctionOpen ∷ w) = put (crossing r k true) (reads r (suc k) (Junction k ∷ st) w)
reads r k [] (SplitClose ∷ w) = None
reads r k (Split g ∷ st) (SplitClose ∷ w) = put (crossing r g false) (reads r (suc k) st w)
reads r k (Junction g ∷ st) (SplitClose ∷ w) = None
reads r k [] (Branch ∷ w) = None
reads r k (Split g ∷ st) (Branch ∷ w) = None
reads r k (Junction g ∷ st) (Branch ∷ w) = put (crossing r g true) (reads r (suc k) (Junction g ∷ st) w)
reads r k [] (JunctionClose ∷ w) = None
reads r k (Split g ∷ st) (JunctionClose ∷ w) = None
reads r k (Junction g ∷ st) (JunctionClose ∷ w) = put (crossing r g true) (reads r (suc k) st w)

abbrev pub drawing_of : List Symbol → Option Drawing
drawing_of w = reads 0 0 [] w

abbrev pub or_empty : Option Drawing → Drawing
or_empty None = []
or_empty (Some d) = d

abbrev pub drawn : List Symbol → Drawing
drawn w = or_empty (drawing_of w)

abbrev pub lawful : List Symbol → Bool
lawful w = shaped w && is_some (drawing_of w)

abbrev pub Lawful : List Symbol → Type 0
Lawful w = lawful w ≡ true

abbrev pub judged : List Symbol → Result (List Symbol) Refusal
judged w = cond (shaped w) (cond (is_some (drawing_of w)) (Ok w) (Err Unlawful)) (Err NoWord)

abbrev pub judged_spelt : Option (List Symbol) → Result (List Symbol) Refusal
judged_spelt None = Err NoWord
judged_spelt (Some w) = judged w

abbrev pub read_word : List ℕ → Result (List Symbol) Refusal
read_word cs = judged_spelt (spelt cs)
