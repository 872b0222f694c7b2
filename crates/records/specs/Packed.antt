-- Symbols packed three bits each.
--   first-of: the first part of an answer
--   symbol_at: the symbol at an index, if the bits there are the code of one
use Rattle.std.specs.Prelude.{ℕ, ◌*◌, Bool, List, drop, Option}
use Rattle.std.specs.Option.{option_map}
use Rattle.symbols.specs.declared.symbols.Symbol.{Symbol}
use Rattle.codec.specs.Bits.{bits_of}
use Rattle.codec.specs.Words.{next_symbol}

abbrev pub symbol_at : List ℕ → ℕ → Option Symbol
symbol_at bs k = option_map (λ (p : Symbol × List Bool). p.0) (next_symbol (drop (3 * k) (bits_of bs)))
