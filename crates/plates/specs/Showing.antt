-- How the examples are put.
--   told: an answer, with a refusal's number and values in its place
--   exits_of: where lines that enter at the crossings of a word's text leave
--   built_text: the text of the word that a table builds
--   one_more: a drawing more, where its word is one
--   all_drawn: the drawings of words given by their texts; nothing where one is no word
--   of_sheet: an answer about the sheet of such words
--   list_of, count_of: the street list and the count of such a sheet
--   record_of: the record of such a sheet
--   list_in: the street list of a sheet, if there is one
--   list_read: the street list of the sheet that a record tells, refused with 15 where it tells none
--   entered_from: the pixel, road code and place at which a dart of such a sheet enters
--   numbers_in, numbers_of: a count and a dart as numbers
--   lines_text: lines of text, each ended by byte 10
--   AllHold: each pair of a list is of two equal things
use Rattle.std.specs.Prelude.{◌≡◌, ℕ, List, [], ◌∷◌, ◌++◌, length, Some, None, Ok, Err, Option, Result}
use Rattle.std.specs.List.{flat_map}
use Rattle.symbols.specs.declared.refusals.Refusal.{Refusal}
use Rattle.symbols.specs.declared.refusals.Refusal.TheVariants.{BadRecord}
use Rattle.symbols.specs.declared.symbols.Crossing.{Crossing}
use Rattle.symbols.specs.declared.symbols.Symbol.{Symbol}
use Rattle.symbols.specs.Refusals.{number, values}
use Rattle.symbols.specs.declared.roads.Road.{Road}
use Rattle.symbols.specs.Symbols.{road_code, text}
use Rattle.rules.specs.Words.{Drawing, drawn, read_word}
use Rattle.rules.specs.Tables.{build_word}
use Rattle.rules.specs.Statements.{exits}
use Rattle.model.specs.Sheets.{Sheet}
use Rattle.model.specs.declared.darts.Dart.{Dart}
use Rattle.model.specs.Darts.{dart, opposite}
use Rattle.model.specs.Streets.{Counts, count, street_list}
use Rattle.codec.specs.Records.{bytes_of, sheet_of}

abbrev pub told : {A B : Type 0} → (A → B) → Result A Refusal → Result B (List ℕ)
told f (Ok x) = Ok (f x)
told f (Err r) = Err (number r ∷ values r)

abbrev pub exits_of : List ℕ → Result (List ℕ) (List ℕ)
exits_of cs = told (λ w. exits (drawn w) (length (drawn w)) 0) (read_word cs)

abbrev pub built_text : List Crossing → Result (List ℕ) (List ℕ)
built_text t = told text (build_word t)

abbrev pub one_more : Result (List Symbol) Refusal → Option (List Drawing) → Option (List Drawing)
one_more (Ok w) (Some ds) = Some (drawn w ∷ ds)
one_more (Ok w) None = None
one_more (Err f) o = None

abbrev pub all_drawn : List (List ℕ) → Option (List Drawing)
all_drawn [] = Some []
all_drawn (t ∷ ts) = one_more (read_word t) (all_drawn ts)

abbrev pub of_sheet : {A : Type 0} → ℕ → ℕ → (Sheet → Result A Refusal) → Option (List Drawing) → Result A (List ℕ)
of_sheet w h f None = Err []
of_sheet w h f (Some ds) = told (λ x. x) (f (record { width = w; height = h; drawings = ds }))

abbrev pub list_of : ℕ → ℕ → List (List ℕ) → Result (List ℕ) (List ℕ)
list_of w h ts = of_sheet w h street_list (all_drawn ts)

abbrev pub record_of : ℕ → ℕ → List (List ℕ) → Result (List ℕ) (List ℕ)
record_of w h ts = of_sheet w h (λ s. Ok (bytes_of s)) (all_drawn ts)

abbrev pub list_in : Option Sheet → Result (List ℕ) Refusal
list_in None = Err BadRecord
list_in (Some s) = street_list s

abbrev pub list_read : List ℕ → Result (List ℕ) (List ℕ)
list_read bs = told (λ x. x) (list_in (sheet_of bs))

abbrev pub numbers_in : Result Counts (List ℕ) → Result (List ℕ) (List ℕ)
numbers_in (Ok c) = Ok (c.vertex_count ∷ c.street_count ∷ c.loop_count ∷ [])
numbers_in (Err f) = Err f

abbrev pub count_of : ℕ → ℕ → List (List ℕ) → Result (List ℕ) (List ℕ)
count_of w h ts = numbers_in (of_sheet w h count (all_drawn ts))

abbrev pub numbers_of : Result Dart (List ℕ) → Result (List ℕ) (List ℕ)
numbers_of (Ok d) = Ok (d.pixel ∷ road_code d.road ∷ d.place ∷ [])
numbers_of (Err f) = Err f

abbrev pub entered_from : ℕ → ℕ → List (List ℕ) → ℕ → Road → ℕ → Result (List ℕ) (List ℕ)
entered_from w h ts p q k = numbers_of (of_sheet w h (λ s. opposite s (dart p q k)) (all_drawn ts))

abbrev pub lines_text : List (List ℕ) → List ℕ
lines_text ls = flat_map (λ l. l ++ (10 ∷ [])) ls

abbrev pub AllHold : List (Result (List ℕ) (List ℕ) × Result (List ℕ) (List ℕ)) → Type 0
AllHold [] = Unit {0}
AllHold (e ∷ es) = (e.0 ≡ e.1) × AllHold es
