-- Words as bits, one word behind the other.
--   symbol_bits: the three bits of a symbol's code
--   next_symbol: the symbol at the front of bits, if they begin with the code of one, and the bits behind it
--   left: how many corners are still to come behind a symbol, where with it one and z more were
--   cut: the symbols up to the z-th corner, at most f of them, and the bits behind them
--   shown: a drawing is not empty, so that its word is not `++++`
--   marks: which drawings are shown
--   shown_symbols: the words of the shown drawings, one behind the other
--   read_drawings: a drawing for each mark, and the bits behind their words: where the mark is set, what the next word
--     draws, which must be lawful and not `++++`, and else the empty one
use Rattle.std.specs.Prelude.{ℕ, zero, suc, Bool, true, false, cond, ◌&&◌, List, [], ◌∷◌, map, Some, None, filter, Option}
use Rattle.std.specs.List.{flat_map}
use Rattle.symbols.specs.declared.symbols.Symbol.{Symbol}
use Rattle.symbols.specs.Symbols.{code, coded}
use Rattle.rules.specs.Words.{Drawing, is_corner, drawn, lawful}
use Rattle.rules.specs.Tables.{word_of}
use Rattle.codec.specs.Reading.{and_then, guard}
use Rattle.codec.specs.Bits.{triple, bits3}

abbrev pub symbol_bits : Symbol → List Bool
symbol_bits s = bits3 (code s)

abbrev pub next_symbol : List Bool → Option (Symbol × List Bool)
next_symbol [] = None
next_symbol (a ∷ []) = None
next_symbol (a ∷ b ∷ []) = None
next_symbol (a ∷ b ∷ c ∷ bs) = and_then (coded (triple a b c)) (λ s. Some (s, bs))

abbrev pub left : Symbol → ℕ → ℕ
left s z = cond (is_corner s) z (suc z)

abbrev pub cut : ℕ → ℕ → List Bool → Option (List Symbol × List Bool)
cut f zero bs = Some ([], bs)
cut zero (suc z) bs = None
cut (suc f) (suc z) bs = and_then (next_symbol bs) (λ p. and_then (cut f (left p.0 z) p.1) (λ q. Some (p.0 ∷ q.0, q.1)))

abbrev pub shown : Drawing → Bool
shown [] = false
shown (c ∷ d) = true

abbrev pub marks : List Drawing → List Bool
marks ds = map shown ds

abbrev pub shown_symbols : List Drawing → List Symbol
shown_symbols ds = flat_map word_of (filter shown ds)

abbrev pub read_drawings : List Bool → List Bool → Option (List Drawing × List Bool)
read_drawings [] bs = Some ([], bs)
read_drawings (false ∷ ms) bs = and_then (read_drawings ms bs) (λ q. Some ([] ∷ q.0, q.1))
read_drawings (true ∷ ms) bs =
    and_then (cut 64 4 bs) (λ p. guard (lawful p.0 && shown (drawn p.0)) (and_then (read_drawings ms p.1) (λ q. Some (drawn p.0 ∷ q.0, q.1))))
