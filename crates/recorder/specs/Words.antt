-- The words of a source as a record has them.
--   shown_part: a word, or nothing where it draws nothing
--   shown_word: that of a pixel; nothing where there is no such pixel
--   Shown: a word is that of a pixel, and draws something
--   marks_told: which words draw something
use Rattle.std.specs.Prelude.{◌≡◌, ℕ, ◌<◌, ◌≤◌, Bool, cond, List, [], map, length}
use Rattle.symbols.specs.declared.symbols.Symbol.{Symbol}
use Rattle.rules.specs.Words.{drawn}
use Rattle.codec.specs.Words.{shown, marks}
use Rattle.stores.specs.Sources.{Told, word_at}

abbrev pub shown_part : List Symbol → List Symbol
shown_part w = cond (shown (drawn w)) w []

abbrev pub shown_word : Told → ℕ → List Symbol
shown_word t p = shown_part (word_at t p)

pub record Shown (t : Told) (p : ℕ) (w : List Symbol) : Type 0 where
  pub word : w ≡ shown_word t p
  pub some : 4 < length w
  pub most : length w ≤ 64

abbrev pub marks_told : Told → List Bool
marks_told t = marks (map drawn t.words)
