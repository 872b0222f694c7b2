-- A record behind its header.
--   behind_header: the sheet of a size, so many runs, and the words, read from the bytes behind the header
use Rattle.std.specs.Prelude.{ℕ, List, Option}
use Rattle.model.specs.Sheets.{Sheet}
use Rattle.codec.specs.Reading.{and_then}
use Rattle.codec.specs.Records.{read_runs, read_rest}

abbrev pub behind_header : ℕ → ℕ → ℕ → List ℕ → Option Sheet
behind_header w h n bs = and_then (read_runs n bs) (λ q. read_rest w h q.0 q.1)
