-- Words as bytes: a symbol is its code, and a word ends at its fourth corner.
--   or_dead_end: a symbol, or a dead end where there is none
--   decode: the symbol of a byte; a byte that is no code counts as a dead end
--   decoded: the symbols of bytes
--   front_word: the word at the front of bytes: the symbols up to the fourth corner
--   encoded: the bytes of a word
use Rattle.std.specs.Prelude.{ℕ, List, map, Some, None, Option}
use Rattle.symbols.specs.declared.symbols.Symbol.{Symbol}
use Rattle.symbols.specs.declared.symbols.Symbol.TheVariants.{DeadEnd}
use Rattle.symbols.specs.Symbols.{code, coded}
use Rattle.codec.specs.Loops.{up_to}

abbrev pub or_dead_end : Option Symbol → Symbol
or_dead_end None = DeadEnd
or_dead_end (Some s) = s

abbrev pub decode : ℕ → Symbol
decode b = or_dead_end (coded b)

abbrev pub decoded : List ℕ → List Symbol
decoded bs = map decode bs

abbrev pub front_word : List ℕ → List Symbol
front_word bs = up_to 4 (decoded bs)

abbrev pub encoded : List Symbol → List ℕ
encoded w = map code w
