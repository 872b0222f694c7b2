-- Symbols and roads, with their codes and characters, and the text of a word.
--   symbols: the seven symbols, in the order of their codes
--   code, letter: the code and the character of a symbol
--   picked: the first of a list at which a function is a number
--   coded, lettered: the symbol with a code, with a character, if there is one
--   roads: the four roads, in the order of their codes
--   road_code, road_letter: the code and the letter of a road
--   road_coded: the road with a code, if there is one
--   or_unknown: what is given, or that a code or a character is unknown
--   joined: one more before a list, if there are both
--   spelt: the symbols of a text, if each of its characters is one; a text is its list of bytes
--   text: the text of symbols
use Rattle.std.specs.Prelude.{ℕ, cond, List, [], ◌∷◌, map, Some, None, Ok, Err, Option, Result, ◌==◌}
use Rattle.symbols.specs.declared.roads.Road.{Road}
use Rattle.symbols.specs.declared.roads.Road.TheVariants.{West, North, East, South}
use Rattle.symbols.specs.declared.symbols.Symbol.{Symbol}
use Rattle.symbols.specs.declared.unknown.Unknown.{Unknown}
use Rattle.symbols.specs.declared.symbols.Symbol.TheVariants.{Corner, DeadEnd, SplitOpen, SplitClose, JunctionOpen, Branch, JunctionClose}

abbrev pub symbols : List Symbol
symbols = Corner ∷ DeadEnd ∷ SplitOpen ∷ SplitClose ∷ JunctionOpen ∷ Branch ∷ JunctionClose ∷ []

abbrev pub code : Symbol → ℕ
code Corner = 0
code DeadEnd = 1
code SplitOpen = 2
code SplitClose = 3
code JunctionOpen = 4
code Branch = 5
code JunctionClose = 6

abbrev pub letter : Symbol → ℕ
letter Corner = 43
letter DeadEnd = 61
letter SplitOpen = 91
letter SplitClose = 93
letter JunctionOpen = 40
letter Branch = 89
letter JunctionClose = 41

-- the first of a list at which f is n
abbrev pub picked : {A : Type 0} → (A → ℕ) → ℕ → List A → Option A
picked f n [] = None
picked f n (x ∷ xs) = cond (n == f x) (Some x) (picked f n xs)

abbrev pub coded : ℕ → Option Symbol
coded n = picked code n symbols

abbrev pub lettered : ℕ → Option Symbol
lettered c = picked letter c symbols

abbrev pub roads : List Road
roads = West ∷ North ∷ East ∷ South ∷ []

abbrev pub road_code : Road → ℕ
road_code West = 0
road_code North = 1
road_code East = 2
road_code South = 3

abbrev pub road_letter : Road → ℕ
road_letter West = 87
road_letter North = 78
road_letter East = 69
road_letter South = 83

abbrev pub road_coded : ℕ → Option Road
road_coded n = picked road_code n roads

abbrev pub or_unknown : {A : Type 0} → ℕ → Option A → Result A (Unknown ℕ)
or_unknown n None = Err (record { 0 = n })
or_unknown n (Some x) = Ok x

abbrev pub joined : {A : Type 0} → Option A → Option (List A) → Option (List A)
joined None xs = None
joined (Some x) None = None
joined (Some x) (Some xs) = Some (x ∷ xs)

abbrev pub spelt : List ℕ → Option (List Symbol)
spelt [] = Some []
spelt (c ∷ cs) = joined (lettered c) (spelt cs)

abbrev pub text : List Symbol → List ℕ
text w = map letter w
