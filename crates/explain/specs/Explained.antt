-- What the program tells of a word, byte for byte.
--   line_at: what is told of a crossing of a drawing
--   with_text: whether a group has a vertex, as a word of the line
--   written: the bytes of such a line
--   lines: the bytes of some lines
--   meaning: the bytes told of a drawing
--   one_line: an input without the byte 10 at its end
--   explained: the bytes told of an input
use Rattle.std.specs.Prelude.{ℕ, zero, suc, ◌-◌, Bool, true, false, cond, List, [], ◌∷◌, ◌++◌, length, take, Ok, Err, codes, decimal, Result, ◌==◌, slice_index, slice_index_or}
use Rattle.symbols.specs.declared.refusals.Refusal.{Refusal}
use Rattle.symbols.specs.declared.symbols.Crossing.{Crossing}
use Rattle.symbols.specs.declared.roads.Road.TheVariants.{West}
use Rattle.symbols.specs.declared.symbols.Symbol.{Symbol}
use Rattle.symbols.specs.Refusals.{number}
use Rattle.symbols.specs.Symbols.{roads, road_letter}
use Rattle.rules.specs.Words.{drawn, read_word}
use Rattle.rules.specs.Tables.{at}
use Rattle.rules.specs.Crossings.{before, count_on}
use Rattle.explain.specs.declared.Line.{Line}

abbrev pub line_at : List Crossing → ℕ → Line
line_at d i = record {
  crossing = i;
  road = slice_index_or roads (at d i).road West;
  place = count_on (at d i).road (take i d);
  group = (at d i).group;
  vertex = (at d i).vertex;
  leaves = before d i;
}

abbrev pub with_text : Bool → List ℕ
with_text true = codes "with"
with_text false = codes "without"

abbrev pub written : Line → List ℕ
written l =
    codes "crossing " ++ (decimal l.crossing ++ (codes " at " ++ ((road_letter l.road ∷ []) ++ (decimal l.place
    ++ (codes ", group " ++ (decimal l.group ++ (codes " " ++ (with_text l.vertex ++ (codes " a vertex, leaves at " ++ (decimal l.leaves ++ (10 ∷ [])))))))))))

-- of n crossings from i on
abbrev pub lines : List Crossing → ℕ → ℕ → List ℕ
lines d zero i = []
lines d (suc n) i = written (line_at d i) ++ lines d n (suc i)

abbrev pub meaning : List Crossing → List ℕ
meaning d = (codes "crossings " ++ (decimal (length d) ++ (10 ∷ []))) ++ lines d (length d) 0

abbrev pub one_line : List ℕ → List ℕ
one_line bs = cond (slice_index bs (length bs - 1) == 10) (take (length bs - 1) bs) bs

abbrev pub told : Result (List Symbol) Refusal → List ℕ
told (Ok w) = meaning (drawn w)
told (Err f) = codes "refused " ++ (decimal (number f) ++ (10 ∷ []))

abbrev pub explained : List ℕ → List ℕ
explained bs = told (read_word (one_line bs))
