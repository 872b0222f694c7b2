-- What sources and stores mean.
--   Told: a size and a word for each pixel, in the order of pixel numbers
--   Sides: the sides of a sheet are 1 to 64
--   LawfulTold: its sides are 1 to 64, there is one word for each pixel, and each is lawful
--   empty_word: the word without a crossing
--   fresh: what a store tells at its opening: the empty word at every pixel
--   word_at: the word of a pixel
--   word_answer: what is answered to one who asks for a pixel's word: its length, or why there is none
--   word_memory: what the memory lent for it holds then
--   sheet_told: the sheet of the words' drawings
--   plain_told: the plain sheet of them, with a longest and a total
--   plain_kept: the plain sheet that a store keeps: what it tells, with its longest and its total
--   ToldSheetly: the drawings of lawful words make a sheet
use Rattle.std.specs.Prelude.{◌≡◌, ℕ, ◌*◌, ◌≤◌, cond, List, [], ◌∷◌, map, length, replicate, Err, Result, nat_lt, slice_index_or}
use Rattle.std.specs.List.{AllByRecursion}
use Rattle.symbols.specs.declared.refusals.Refusal.{Refusal}
use Rattle.symbols.specs.declared.refusals.Refusal.TheVariants.{NoPixel}
use Rattle.symbols.specs.declared.symbols.Symbol.{Symbol}
use Rattle.symbols.specs.declared.symbols.Symbol.TheVariants.{Corner}
use Rattle.symbols.specs.Refusals.{fill_answer, filled}
use Rattle.rules.specs.Words.{Lawful, drawn}
use Rattle.model.specs.Sheets.{Sheet, Sheetly, most_side}
use Rattle.plain.specs.Plain.{Plain}

pub record Told : Type 0 where
  pub width : ℕ
  pub height : ℕ
  pub words : List (List Symbol)

abbrev pub Sides : ℕ → ℕ → Type 0
Sides w h = (1 ≤ w) × (w ≤ most_side) × (1 ≤ h) × (h ≤ most_side)

pub record LawfulTold (t : Told) : Type 0 where
  pub some_width : 1 ≤ t.width
  pub most_width : t.width ≤ most_side
  pub some_height : 1 ≤ t.height
  pub most_height : t.height ≤ most_side
  pub whole : length t.words ≡ t.width * t.height
  pub words : AllByRecursion Lawful t.words

abbrev pub empty_word : List Symbol
empty_word = Corner ∷ Corner ∷ Corner ∷ Corner ∷ []

abbrev pub fresh : ℕ → ℕ → Told
fresh w h = record { width = w; height = h; words = replicate (w * h) empty_word }

abbrev pub word_at : Told → ℕ → List Symbol
word_at t p = slice_index_or t.words p []

abbrev pub word_answer : Told → ℕ → List Symbol → Result ℕ Refusal
word_answer t p memory = cond (nat_lt p (t.width * t.height)) (fill_answer (word_at t p) memory) (Err NoPixel)

abbrev pub word_memory : Told → ℕ → List Symbol → List Symbol
word_memory t p memory = cond (nat_lt p (t.width * t.height)) (filled (word_at t p) memory) memory

abbrev pub sheet_told : Told → Sheet
sheet_told t = record { width = t.width; height = t.height; drawings = map drawn t.words }

abbrev pub plain_told : Told → ℕ → ℕ → Plain
plain_told t l n = record { width = t.width; height = t.height; longest = l; total = n; drawings = map drawn t.words }

abbrev pub plain_kept : {S : Type 0} → (S → Told) → (S → ℕ) → (S → ℕ) → S → Plain
plain_kept told longest total s = plain_told (told s) (longest s) (total s)

abbrev pub ToldSheetly : Type 0
ToldSheetly = (t : Told) → LawfulTold t → Sheetly (sheet_told t)
