-- The theorems, as the contracts of the crate name them.
--   SheetsComeBack: the record of a sheet is read as that sheet
--   RecordsComeBack: bytes that are read as a sheet are its record
--   RecordsSound: a record has bytes, and what is read is a sheet
--   RecordsTell: sheets are equal exactly when their records are
--   RefusalsRight: bytes are refused exactly when they are no sheet's record
--   Whole: a run has a pixel and lies within the sheet, its pixels are not empty, and the ones beside it, if any, are
--   RunsWhole: runs are sorted, do not touch and are whole, and the pixels in them are those whose word is not `++++`
--   end_on_east, end_on_west, sheet: two drawings, and the sheet of a size and drawings
--   read, refused: three sheets with their records; bytes that break one rule each
--   Examples: those have these records and are read back from them, and the others are refused
use Rattle.std.specs.Prelude.{◌≡◌, ℕ, suc, ◌+◌, ◌<◌, ◌≤◌, true, ◌≢◌, ◌↔◌, List, [], ◌∷◌, length, replicate, Some, None}
use Rattle.std.specs.List.{AllByRecursion}
use Rattle.symbols.specs.declared.symbols.Symbol.TheVariants.{Corner, DeadEnd}
use Rattle.rules.specs.Words.{Drawing, drawn}
use Rattle.rules.specs.Tables.{word_of}
use Rattle.model.specs.Sheets.{Sheet, Sheetly, IsDrawing, drawing_at}
use Rattle.codec.specs.Bits.{Bytes}
use Rattle.codec.specs.Runs.{Run, covered, Sound}
use Rattle.codec.specs.Records.{runs_of, bytes_of, sheet_of}

abbrev pub SheetsComeBack : Type 0
SheetsComeBack = (s : Sheet) → Sheetly s → sheet_of (bytes_of s) ≡ Some s

abbrev pub RecordsComeBack : Type 0
RecordsComeBack = (bs : List ℕ) → Bytes bs → (s : Sheet) → sheet_of bs ≡ Some s → bytes_of s ≡ bs

-- what is read is a sheet, also where some numbers are no bytes
abbrev pub RecordsSound : Type 0
RecordsSound = ((s : Sheet) → Sheetly s → Bytes (bytes_of s)) × ((bs : List ℕ) (s : Sheet) → sheet_of bs ≡ Some s → Sheetly s)

abbrev pub RecordsTell : Type 0
RecordsTell = (s t : Sheet) → Sheetly s → Sheetly t → (bytes_of s ≡ bytes_of t) ↔ (s ≡ t)

abbrev pub RefusalsRight : Type 0
RefusalsRight = (bs : List ℕ) → Bytes bs → (sheet_of bs ≡ None) ↔ ((s : Sheet) → Sheetly s → bytes_of s ≢ bs)

pub record Whole (s : Sheet) (r : Run) : Type 0 where
  pub some : 1 ≤ r.count
  pub inside : r.offset + r.count ≤ length s.drawings
  pub full : (k : ℕ) → r.offset ≤ k → k < r.offset + r.count → drawing_at s k ≢ []
  pub before : (k : ℕ) → suc k ≡ r.offset → drawing_at s k ≡ []
  pub behind : drawing_at s (r.offset + r.count) ≡ []

abbrev pub RunsWhole : Type 0
RunsWhole =
    ((s : Sheet) → Sound 0 (length s.drawings) (runs_of s) × AllByRecursion (Whole s) (runs_of s))
    × ((s : Sheet) (k : ℕ) → (covered (runs_of s) k ≡ true) ↔ (drawing_at s k ≢ []))
    × ((d : Drawing) → IsDrawing d → (d ≡ []) ↔ (word_of d ≡ (Corner ∷ Corner ∷ Corner ∷ Corner ∷ [])))

-- the drawings of `++=++` and `=++++`
abbrev pub end_on_east : Drawing
end_on_east = drawn (Corner ∷ Corner ∷ DeadEnd ∷ Corner ∷ Corner ∷ [])

abbrev pub end_on_west : Drawing
end_on_west = drawn (DeadEnd ∷ Corner ∷ Corner ∷ Corner ∷ Corner ∷ [])

abbrev pub sheet : ℕ → ℕ → List Drawing → Sheet
sheet w h ds = record { width = w; height = h; drawings = ds }

-- two pixels side by side, the same two with an empty one between them, and 64 empty ones
abbrev pub read : List (Sheet × List ℕ)
read =
    (sheet 2 1 (end_on_east ∷ end_on_west ∷ []), 0x01 ∷ 0x02 ∷ 0x01 ∷ 0x00 ∷ 0x01 ∷ 0x00 ∷ 0x00 ∷ 0x00 ∷ 0x02 ∷ 0x00 ∷ 0x80 ∷ 0x40 ∷ 0x00 ∷ [])
    ∷ (sheet 3 1 (end_on_east ∷ [] ∷ end_on_west ∷ []), 0x01 ∷ 0x03 ∷ 0x01 ∷ 0x00 ∷ 0x02 ∷ 0x00 ∷ 0x00 ∷ 0x00 ∷ 0x01 ∷ 0x00 ∷ 0x02 ∷ 0x00 ∷ 0x01 ∷ 0x00 ∷ 0x80 ∷ 0x40 ∷ 0x00 ∷ [])
    ∷ (sheet 64 1 (replicate 64 []), 0x01 ∷ 0x40 ∷ 0x01 ∷ 0x00 ∷ 0x00 ∷ [])
    ∷ []

-- in this order: edition 2; a width of 0, of 65, a height of 0, of 65; a header, a run, words too short by a byte;
-- a byte too many; an empty run; runs in the wrong order, runs that touch, a run past the last pixel; code 7;
-- the word `++]++`; the word `++++` in a run; a set bit in the padding
abbrev pub refused : List (List ℕ)
refused =
    (0x02 ∷ 0x02 ∷ 0x01 ∷ 0x00 ∷ 0x01 ∷ 0x00 ∷ 0x00 ∷ 0x00 ∷ 0x02 ∷ 0x00 ∷ 0x80 ∷ 0x40 ∷ 0x00 ∷ [])
    ∷ (0x01 ∷ 0x00 ∷ 0x01 ∷ 0x00 ∷ 0x00 ∷ [])
    ∷ (0x01 ∷ 0x41 ∷ 0x01 ∷ 0x00 ∷ 0x00 ∷ [])
    ∷ (0x01 ∷ 0x01 ∷ 0x00 ∷ 0x00 ∷ 0x00 ∷ [])
    ∷ (0x01 ∷ 0x01 ∷ 0x41 ∷ 0x00 ∷ 0x00 ∷ [])
    ∷ (0x01 ∷ 0x40 ∷ 0x01 ∷ 0x00 ∷ [])
    ∷ (0x01 ∷ 0x02 ∷ 0x01 ∷ 0x00 ∷ 0x01 ∷ 0x00 ∷ 0x00 ∷ 0x00 ∷ [])
    ∷ (0x01 ∷ 0x02 ∷ 0x01 ∷ 0x00 ∷ 0x01 ∷ 0x00 ∷ 0x00 ∷ 0x00 ∷ 0x02 ∷ 0x00 ∷ 0x80 ∷ 0x40 ∷ [])
    ∷ (0x01 ∷ 0x02 ∷ 0x01 ∷ 0x00 ∷ 0x01 ∷ 0x00 ∷ 0x00 ∷ 0x00 ∷ 0x02 ∷ 0x00 ∷ 0x80 ∷ 0x40 ∷ 0x00 ∷ 0x00 ∷ [])
    ∷ (0x01 ∷ 0x02 ∷ 0x01 ∷ 0x00 ∷ 0x01 ∷ 0x00 ∷ 0x00 ∷ 0x00 ∷ 0x00 ∷ [])
    ∷ (0x01 ∷ 0x03 ∷ 0x01 ∷ 0x00 ∷ 0x02 ∷ 0x00 ∷ 0x02 ∷ 0x00 ∷ 0x01 ∷ 0x00 ∷ 0x00 ∷ 0x00 ∷ 0x01 ∷ 0x00 ∷ 0x80 ∷ 0x40 ∷ 0x00 ∷ [])
    ∷ (0x01 ∷ 0x02 ∷ 0x01 ∷ 0x00 ∷ 0x02 ∷ 0x00 ∷ 0x00 ∷ 0x00 ∷ 0x01 ∷ 0x00 ∷ 0x01 ∷ 0x00 ∷ 0x01 ∷ 0x00 ∷ 0x80 ∷ 0x40 ∷ 0x00 ∷ [])
    ∷ (0x01 ∷ 0x02 ∷ 0x01 ∷ 0x00 ∷ 0x01 ∷ 0x00 ∷ 0x01 ∷ 0x00 ∷ 0x02 ∷ 0x00 ∷ 0x80 ∷ 0x40 ∷ 0x00 ∷ [])
    ∷ (0x01 ∷ 0x02 ∷ 0x01 ∷ 0x00 ∷ 0x01 ∷ 0x00 ∷ 0x00 ∷ 0x00 ∷ 0x02 ∷ 0x03 ∷ 0x80 ∷ 0x40 ∷ 0x00 ∷ [])
    ∷ (0x01 ∷ 0x02 ∷ 0x01 ∷ 0x00 ∷ 0x01 ∷ 0x00 ∷ 0x00 ∷ 0x00 ∷ 0x02 ∷ 0x01 ∷ 0x80 ∷ 0x40 ∷ 0x00 ∷ [])
    ∷ (0x01 ∷ 0x02 ∷ 0x01 ∷ 0x00 ∷ 0x01 ∷ 0x00 ∷ 0x00 ∷ 0x00 ∷ 0x01 ∷ 0x00 ∷ 0x00 ∷ [])
    ∷ (0x01 ∷ 0x02 ∷ 0x01 ∷ 0x00 ∷ 0x01 ∷ 0x00 ∷ 0x00 ∷ 0x00 ∷ 0x02 ∷ 0x00 ∷ 0x80 ∷ 0x40 ∷ 0x01 ∷ [])
    ∷ []

abbrev pub Examples : Type 0
Examples = AllByRecursion (λ e. (bytes_of e.0 ≡ e.1) × (sheet_of e.1 ≡ Some e.0)) read × AllByRecursion (λ bs. sheet_of bs ≡ None) refused
