-- The worked examples.
--   ring_sheet, street_sheet, pair_sheet, four_sheet: small sheets, by the texts of their words
--   PlatesShown: what is said of words, tables and these sheets
use Rattle.std.specs.Prelude.{ℕ, List, [], ◌∷◌, Ok, Err, codes}
use Rattle.symbols.specs.declared.roads.Road.TheVariants.{East}
use Rattle.rules.specs.Statements.{four_on_w}
use Rattle.plates.specs.Showing.{exits_of, built_text, entered_from, list_of, record_of, count_of, lines_text, AllHold}

abbrev pub ring_sheet : List (List ℕ)
ring_sheet = codes "++[+]+" ∷ codes "[+++]+" ∷ codes "+[+]++" ∷ codes "[+]+++" ∷ []

abbrev pub street_sheet : List (List ℕ)
street_sheet = codes "++(+)+" ∷ codes "[+++]+" ∷ codes "+[+]++" ∷ codes "[+]+++" ∷ []

abbrev pub pair_sheet : List (List ℕ)
pair_sheet = codes "++=++" ∷ codes "=++++" ∷ []

-- four crossings on E of one pixel and on W of the other
abbrev pub four_sheet : List (List ℕ)
four_sheet = codes "++====++" ∷ codes "====++++" ∷ []

abbrev pub PlatesShown : Type 0
PlatesShown = AllHold (
    (exits_of (codes "++++"), Ok [])
    ∷ (exits_of (codes "+++"), Err (3 ∷ []))
    ∷ (exits_of (codes "+++++"), Err (3 ∷ []))
    ∷ (exits_of (codes "(([=+]+Y+))+"), Ok (7 ∷ 6 ∷ 4 ∷ 3 ∷ 2 ∷ 1 ∷ 5 ∷ 0 ∷ []))
    ∷ (exits_of (codes "=(Y+Y[(+)[+]])+"), Ok (0 ∷ 10 ∷ 1 ∷ 2 ∷ 9 ∷ 6 ∷ 5 ∷ 8 ∷ 7 ∷ 4 ∷ 3 ∷ []))
    ∷ (exits_of (codes "=Y+Y[(+)[+]]+"), Err (4 ∷ []))
    ∷ (exits_of (codes "[Y]++++"), Err (4 ∷ []))
    ∷ (exits_of (codes "[+)+++"), Err (4 ∷ []))
    ∷ (built_text (four_on_w 1 2 2 1), Ok (codes "(())++++"))
    ∷ (built_text (four_on_w 1 2 1 2), Err (10 ∷ []))
    ∷ (entered_from 2 1 four_sheet 0 East 1, Ok (1 ∷ 0 ∷ 2 ∷ []))
    ∷ (list_of 2 2 ring_sheet, Err (13 ∷ 0 ∷ 2 ∷ 0 ∷ []))
    ∷ (list_of 2 2 street_sheet, Ok (lines_text (codes "2 2" ∷ codes "0E0 1S0 3W0 2N0 > 0E0" ∷ codes "0S0 2E0 3N0 1W0 > 0S0" ∷ [])))
    ∷ (count_of 2 2 street_sheet, Ok (1 ∷ 1 ∷ 2 ∷ []))
    ∷ (record_of 2 1 pair_sheet, Ok (1 ∷ 2 ∷ 1 ∷ 0 ∷ 1 ∷ 0 ∷ 0 ∷ 0 ∷ 2 ∷ 0 ∷ 128 ∷ 64 ∷ 0 ∷ []))
    ∷ (list_of 2 1 pair_sheet, Ok (lines_text (codes "2 1" ∷ codes "0E0 > 1W0" ∷ codes "1W0 > 0E0" ∷ [])))
    ∷ [])
