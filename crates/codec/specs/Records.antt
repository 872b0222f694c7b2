-- Records: the bytes of a sheet, and the sheet that bytes are read as.
--   two: a number in two bytes, high byte first
--   run_bytes: a run in four bytes
--   record_of: the record of a size, runs and the symbols of their words
--   runs_of: the runs of a sheet: the whole stretches of pixels that are not empty
--   bytes_of: the record of a sheet
--   read_runs: n runs, and the bytes behind them
--   side: a number is 1 to 64
--   read_rest: the sheet of a size and runs, read from the bytes behind the runs
--   sheet_of: the sheet that bytes are read as; nothing for bytes that are no record
use Rattle.std.specs.Prelude.{ℕ, zero, suc, ◌+◌, ◌*◌, ◌/◌, ◌%◌, Bool, ◌&&◌, List, [], ◌∷◌, ◌++◌, length, Some, None, Option, ◌==◌, nat_le}
use Rattle.std.specs.List.{flat_map}
use Rattle.symbols.specs.declared.symbols.Symbol.{Symbol}
use Rattle.model.specs.Sheets.{Sheet, most_side}
use Rattle.codec.specs.Reading.{and_then, guard}
use Rattle.codec.specs.Bits.{bits_of, pack, padding}
use Rattle.codec.specs.Words.{symbol_bits, marks, shown_symbols, read_drawings}
use Rattle.codec.specs.Runs.{Run, run, runs, covers, sound}

abbrev pub two : ℕ → List ℕ
two n = n / 256 ∷ n % 256 ∷ []

abbrev pub run_bytes : Run → List ℕ
run_bytes r = two r.offset ++ two r.count

abbrev pub record_of : ℕ → ℕ → List Run → List Symbol → List ℕ
record_of w h rs ss = 1 ∷ w ∷ h ∷ (two (length rs) ++ (flat_map run_bytes rs ++ pack (flat_map symbol_bits ss)))

abbrev pub runs_of : Sheet → List Run
runs_of s = runs 0 (marks s.drawings)

abbrev pub bytes_of : Sheet → List ℕ
bytes_of s = record_of s.width s.height (runs_of s) (shown_symbols s.drawings)

abbrev pub read_runs : ℕ → List ℕ → Option (List Run × List ℕ)
read_runs zero bs = Some ([], bs)
read_runs (suc n) [] = None
read_runs (suc n) (a ∷ []) = None
read_runs (suc n) (a ∷ b ∷ []) = None
read_runs (suc n) (a ∷ b ∷ c ∷ []) = None
read_runs (suc n) (a ∷ b ∷ c ∷ d ∷ bs) = and_then (read_runs n bs) (λ q. Some (run (a * 256 + b) (c * 256 + d) ∷ q.0, q.1))

abbrev pub side : ℕ → Bool
side n = nat_le 1 n && nat_le n most_side

abbrev pub read_rest : ℕ → ℕ → List Run → List ℕ → Option Sheet
read_rest w h rs bs =
    guard (sound 0 (w * h) rs)
    (and_then (read_drawings (covers rs 0 (w * h)) (bits_of bs)) (λ q. guard (padding q.1) (Some (record { width = w; height = h; drawings = q.0 }))))

abbrev pub sheet_of : List ℕ → Option Sheet
sheet_of [] = None
sheet_of (e ∷ []) = None
sheet_of (e ∷ w ∷ []) = None
sheet_of (e ∷ w ∷ h ∷ []) = None
sheet_of (e ∷ w ∷ h ∷ a ∷ []) = None
sheet_of (e ∷ w ∷ h ∷ a ∷ b ∷ bs) =
    guard (e == 1 && (side w && side h)) (and_then (read_runs (a * 256 + b) bs) (λ q. read_rest w h q.0 q.1))
