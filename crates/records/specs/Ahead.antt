-- The words of a record from a pixel on, while they are passed in order. So many words of the pixel's run are still to come,
-- and the runs behind it begin at `low` or later.
--   begins: a run is in its place and begins at a pixel
--   raised: where the next run may begin, behind a pixel that lies in none
--   spot_ahead: how many of the words to come stand before that of a pixel, if the pixel lies in a run
--   word_ahead: the word of a pixel, from the words to come
--   SameBehind: the words behind the first of bits are those of the bits that are left
use Rattle.std.specs.Prelude.{◌≡◌, ℕ, suc, ◌+◌, ◌-◌, Bool, cond, ◌&&◌, List, Some, Option, ◌==◌, nat_le, nat_lt}
use Rattle.std.specs.Option.{option_map}
use Rattle.symbols.specs.declared.symbols.Symbol.{Symbol}
use Rattle.codec.specs.Reading.{and_then}
use Rattle.codec.specs.Runs.{Run}
use Rattle.records.specs.Stretches.{follows, spot}
use Rattle.records.specs.Behind.{word_behind}
use Rattle.records.specs.Told.{or_empty_word}

abbrev pub begins : ℕ → ℕ → Run → ℕ → Bool
begins low end r pixel = follows low end r && r.offset == pixel

abbrev pub raised : ℕ → ℕ → ℕ
raised low pixel = cond (nat_le low pixel) (pixel + 1) low

abbrev pub spot_ahead : ℕ → ℕ → ℕ → ℕ → List Run → ℕ → Option ℕ
spot_ahead end pixel inside low rs k =
    cond (nat_lt k (pixel + inside)) (Some (k - pixel)) (option_map (λ n. inside + n) (spot low end rs k))

abbrev pub word_ahead : ℕ → ℕ → ℕ → ℕ → List Run → List Bool → ℕ → List Symbol
word_ahead end pixel inside low rs bits k =
    or_empty_word (and_then (spot_ahead end pixel inside low rs k) (λ n. word_behind n bits))

abbrev pub SameBehind : List Bool → List Bool → Type 0
SameBehind bits rest = (n : ℕ) → word_behind (suc n) bits ≡ word_behind n rest
