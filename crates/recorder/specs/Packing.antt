-- Bits put into bytes, one behind the other.
--   weight: what bit j of a byte counts, the high bit first
--   first_bits: the number of the first j bits of a byte
--   with_bit: a byte whose first j bits are kept, with one bit behind them and zero bits to its end
--   put_bit: bytes with a bit behind their first k bits
--   put_bits: bytes with bits one behind the other behind their first k bits
--   packed: memory whose front holds packed bits
use Rattle.std.specs.Prelude.{ℕ, ◌+◌, ◌*◌, ◌/◌, ◌%◌, ◌^◌, Bool, List, [], ◌∷◌, ◌++◌, length, drop, slice_index, slice_set}
use Rattle.codec.specs.Bits.{push, pack}

abbrev pub weight : ℕ → ℕ
weight j = 128 / 2 ^ j

abbrev pub first_bits : ℕ → ℕ → ℕ
first_bits x j = x / weight j / 2 % 2 ^ j

abbrev pub with_bit : ℕ → ℕ → Bool → ℕ
with_bit x j b = push (first_bits x j) b * weight j

abbrev pub put_bit : List ℕ → ℕ → Bool → List ℕ
put_bit bs k b = slice_set bs (k / 8) (with_bit (slice_index bs (k / 8)) (k % 8) b)

abbrev pub put_bits : List ℕ → ℕ → List Bool → List ℕ
put_bits bs k [] = bs
put_bits bs k (b ∷ ms) = put_bits (put_bit bs k b) (k + 1) ms

abbrev pub packed : List Bool → List ℕ → List ℕ
packed ms old = pack ms ++ drop (length (pack ms)) old
