-- Refusals, and memory that an answer fills.
--   number: the number of a refusal
--   values: the place that a refusal carries: pixel and road code, or pixel, road code and place; nothing for the others
--   place_text: the place that a refusal carries, as text: the pixel and the letter of the road, and of a dart its place too
--   refusal_text: a refusal as text: its number, and behind it that place
--   fill_answer: what a call tells that fills memory with an answer: the answer's length, or that the memory is short
--   filled: what that memory holds then: the answer and behind it what was there, or all that was there
use Rattle.std.specs.Prelude.{ℕ, cond, List, [], ◌∷◌, ◌++◌, length, drop, Ok, Err, codes, decimal, Result, nat_lt}
use Rattle.symbols.specs.declared.refusals.Refusal.{Refusal}
use Rattle.symbols.specs.declared.refusals.Refusal.TheVariants as r
use Rattle.symbols.specs.Symbols.{road_code, road_letter}

abbrev pub number : Refusal → ℕ
number r.Opening = 1
number r.NoPixel = 2
number r.NoWord = 3
number r.Unlawful = 4
number r.OverLongest = 5
number r.OverTotal = 6
number r.Roads = 7
number r.Flags = 8
number r.Pairs = 9
number r.Crossed = 10
number r.NoDart = 11
number (r.RoadFails p q) = 12
number (r.OnRing p q k) = 13
number r.Short = 14
number r.BadRecord = 15
number r.Home = 16

abbrev pub values : Refusal → List ℕ
values r.Opening = []
values r.NoPixel = []
values r.NoWord = []
values r.Unlawful = []
values r.OverLongest = []
values r.OverTotal = []
values r.Roads = []
values r.Flags = []
values r.Pairs = []
values r.Crossed = []
values r.NoDart = []
values (r.RoadFails p q) = p ∷ road_code q ∷ []
values (r.OnRing p q k) = p ∷ road_code q ∷ k ∷ []
values r.Short = []
values r.BadRecord = []
values r.Home = []

abbrev pub place_text : Refusal → List ℕ
place_text (r.RoadFails p q) = codes " " ++ (decimal p ++ (road_letter q ∷ []))
place_text (r.OnRing p q k) = codes " " ++ (decimal p ++ ((road_letter q ∷ []) ++ decimal k))
place_text r.Opening = []
place_text r.NoPixel = []
place_text r.NoWord = []
place_text r.Unlawful = []
place_text r.OverLongest = []
place_text r.OverTotal = []
place_text r.Roads = []
place_text r.Flags = []
place_text r.Pairs = []
place_text r.Crossed = []
place_text r.NoDart = []
place_text r.Short = []
place_text r.BadRecord = []
place_text r.Home = []

abbrev pub refusal_text : Refusal → List ℕ
refusal_text f = codes "refused " ++ (decimal (number f) ++ place_text f)

abbrev pub fill_answer : {A : Type 0} → List A → List A → Result ℕ Refusal
fill_answer answer memory = cond (nat_lt (length memory) (length answer)) (Err r.Short) (Ok (length answer))

abbrev pub filled : {A : Type 0} → List A → List A → List A
filled answer memory = cond (nat_lt (length memory) (length answer)) memory (answer ++ drop (length answer) memory)
