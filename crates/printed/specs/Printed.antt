-- What is printed for a record, byte for byte.
--   number_line, road_line, dart_line: the line for a refusal that carries no place, a road, a dart
--   refused_text: the line for a refusal
--   most_input, most_list: how many bytes of input are read, and how many a list may have
--   printed_list: a list, or why there is none
--   printed_record: the same of the sheet of a record, if there is one
--   printed: all that is printed for an input
--   SizedRecord: bytes are the record of a sheet of a size
use Rattle.std.specs.Prelude.{◌≡◌, ℕ, cond, List, [], ◌∷◌, ◌++◌, length, Some, None, Ok, Err, codes, decimal, Option, Result, nat_lt}
use Rattle.symbols.specs.declared.refusals.Refusal.{Refusal}
use Rattle.symbols.specs.declared.refusals.Refusal.TheVariants as r
use Rattle.symbols.specs.declared.roads.Road.{Road}
use Rattle.symbols.specs.Refusals.{number}
use Rattle.symbols.specs.Symbols.{road_letter}
use Rattle.model.specs.Sheets.{Sheet}
use Rattle.model.specs.Streets.{street_list}
use Rattle.codec.specs.Records.{sheet_of}

abbrev pub number_line : ℕ → List ℕ
number_line n = codes "refused " ++ (decimal n ++ (10 ∷ []))

abbrev pub road_line : ℕ → ℕ → Road → List ℕ
road_line n p q = codes "refused " ++ (decimal n ++ (codes " " ++ (decimal p ++ ((road_letter q ∷ []) ++ (10 ∷ [])))))

abbrev pub dart_line : ℕ → ℕ → Road → ℕ → List ℕ
dart_line n p q k = codes "refused " ++ (decimal n ++ (codes " " ++ (decimal p ++ ((road_letter q ∷ []) ++ (decimal k ++ (10 ∷ []))))))

abbrev pub refused_text : Refusal → List ℕ
refused_text (r.RoadFails p q) = road_line 12 p q
refused_text (r.OnRing p q k) = dart_line 13 p q k
refused_text r.Opening = number_line (number r.Opening)
refused_text r.NoPixel = number_line (number r.NoPixel)
refused_text r.NoWord = number_line (number r.NoWord)
refused_text r.Unlawful = number_line (number r.Unlawful)
refused_text r.OverLongest = number_line (number r.OverLongest)
refused_text r.OverTotal = number_line (number r.OverTotal)
refused_text r.Roads = number_line (number r.Roads)
refused_text r.Flags = number_line (number r.Flags)
refused_text r.Pairs = number_line (number r.Pairs)
refused_text r.Crossed = number_line (number r.Crossed)
refused_text r.NoDart = number_line (number r.NoDart)
refused_text r.Short = number_line (number r.Short)
refused_text r.BadRecord = number_line (number r.BadRecord)
refused_text r.Home = number_line (number r.Home)

abbrev pub most_input : ℕ
most_input = 32768

abbrev pub most_list : ℕ
most_list = 65536

abbrev pub printed_list : Result (List ℕ) Refusal → List ℕ
printed_list (Ok list) = cond (nat_lt most_list (length list)) (refused_text r.Short) list
printed_list (Err f) = refused_text f

abbrev pub printed_record : Option Sheet → List ℕ
printed_record None = refused_text r.BadRecord
printed_record (Some s) = printed_list (street_list s)

abbrev pub printed : List ℕ → List ℕ
printed bs = cond (nat_lt most_input (length bs)) (refused_text r.Short) (printed_record (sheet_of bs))

abbrev pub SizedRecord : List ℕ → ℕ → ℕ → Type 0
SizedRecord bs w h = (s : Sheet) × (sheet_of bs ≡ Some s) × (s.width ≡ w) × (s.height ≡ h)
