-- Bytes put into memory, one behind the other.
--   put_bytes: memory with bytes put into it from a place on
--   heading: what stands before the runs of a record: the edition, the size and how many runs there are
use Rattle.std.specs.Prelude.{ℕ, ◌+◌, List, [], ◌∷◌, slice_set}
use Rattle.codec.specs.Records.{two}

abbrev pub put_bytes : List ℕ → ℕ → List ℕ → List ℕ
put_bytes bs at [] = bs
put_bytes bs at (x ∷ xs) = put_bytes (slice_set bs at x) (at + 1) xs

abbrev pub heading : ℕ → ℕ → ℕ → List ℕ
heading width height runs = 1 ∷ width ∷ height ∷ two runs
