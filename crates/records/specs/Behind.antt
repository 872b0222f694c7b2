-- Words one behind the other in bits: cut off, passed over, and fetched by their number.
--   CutOff: a word begins at an index of packed symbols, and ends within the bytes
--   in_run: a word may stand in a run: it is lawful, and it is not `++++`
--   any_word: a word may be passed over
--   skips: the bits behind n words, each of which passes a test
--   padded: only padding is left
--   all_words: n words that may stand in a run, and behind them only padding
--   word_behind: the word behind n others, if it is lawful
use Rattle.std.specs.Prelude.{◌≡◌, ℕ, zero, suc, ◌+◌, ◌*◌, ◌≤◌, Bool, true, false, ◌&&◌, List, length, drop, Some, None, Option}
use Rattle.symbols.specs.declared.symbols.Symbol.{Symbol}
use Rattle.rules.specs.Words.{drawn, lawful}
use Rattle.codec.specs.Reading.{and_then, guard}
use Rattle.codec.specs.Bits.{bits_of, padding}
use Rattle.codec.specs.Words.{cut, shown}

pub record CutOff (bs : List ℕ) (from : ℕ) (w : List Symbol) : Type 0 where
  pub off : cut 64 4 (drop (3 * from) (bits_of bs)) ≡ Some (w, drop (3 * (from + length w)) (bits_of bs))
  pub few : length w ≤ 64
  pub within : 3 * (from + length w) ≤ 8 * length bs

abbrev pub in_run : List Symbol → Bool
in_run w = lawful w && shown (drawn w)

abbrev pub any_word : List Symbol → Bool
any_word w = true

abbrev pub skips : (List Symbol → Bool) → ℕ → List Bool → Option (List Bool)
skips ok zero bs = Some bs
skips ok (suc n) bs = and_then (cut 64 4 bs) (λ p. guard (ok p.0) (skips ok n p.1))

abbrev pub padded : Option (List Bool) → Bool
padded None = false
padded (Some bs) = padding bs

abbrev pub all_words : ℕ → List Bool → Bool
all_words n bs = padded (skips in_run n bs)

abbrev pub word_behind : ℕ → List Bool → Option (List Symbol)
word_behind n bs = and_then (skips any_word n bs) (λ rest. and_then (cut 64 4 rest) (λ p. guard (lawful p.0) (Some p.0)))
