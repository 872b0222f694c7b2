-- Darts as numbers, and answers as C has them.
--   dart_code: the code of a dart: pixel × 256 + road × 64 + place
--   road_in: the road in the two low bits of a number
--   dart_coded: the dart of a code
--   told_code: a dart's code, or the number of a refusal with its sign turned
--   asked_of, asked: what is answered to one who asks about a dart of a record: no record, then what the call answers
--   CodesTell: no two codes have one dart, and each dart of a sheet has a code
use Rattle.std.specs.Prelude.{◌≡◌, ℕ, ◌+◌, ◌*◌, ◌/◌, ◌%◌, true, List, ℤ, pos, neg_ℤ, Some, None, Ok, Err, Option, Result, slice_index_or}
use Rattle.symbols.specs.declared.refusals.Refusal.{Refusal}
use Rattle.symbols.specs.declared.refusals.Refusal.TheVariants.{BadRecord}
use Rattle.symbols.specs.declared.roads.Road.{Road}
use Rattle.symbols.specs.declared.roads.Road.TheVariants.{West}
use Rattle.symbols.specs.Refusals.{number}
use Rattle.symbols.specs.Symbols.{roads, road_code}
use Rattle.model.specs.declared.darts.Dart.{Dart}
use Rattle.model.specs.Sheets.{Sheet, Sheetly}
use Rattle.model.specs.Darts.{dart, is_dart}
use Rattle.codec.specs.Records.{sheet_of}

abbrev pub dart_code : Dart → ℕ
dart_code d = d.pixel * 256 + road_code d.road * 64 + d.place

abbrev pub road_in : ℕ → Road
road_in n = slice_index_or roads (n % 4) West

abbrev pub dart_coded : ℕ → Dart
dart_coded n = dart (n / 256) (road_in (n / 64)) (n % 64)

abbrev pub told_code : Result Dart Refusal → ℤ
told_code (Ok d) = pos (dart_code d)
told_code (Err f) = neg_ℤ (pos (number f))

-- of the sheet that bytes are read as
abbrev pub asked_of : (Sheet → Dart → Result Dart Refusal) → Option Sheet → ℕ → ℤ
asked_of call None n = told_code (Err BadRecord)
asked_of call (Some s) n = told_code (call s (dart_coded n))

abbrev pub asked : (Sheet → Dart → Result Dart Refusal) → List ℕ → ℕ → ℤ
asked call bs n = asked_of call (sheet_of bs) n

abbrev pub CodesTell : Type 0
CodesTell =
    ((n : ℕ) → dart_code (dart_coded n) ≡ n)
    × ((s : Sheet) → Sheetly s → (d : Dart) → is_dart s d ≡ true → dart_coded (dart_code d) ≡ d)
