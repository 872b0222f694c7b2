-- Words one behind the other in memory.
--   strip_words: the first n words of bytes, each of them up to its fourth corner
--   lengths: how long words are together
--   Spotted: where a pixel's word begins, how long it is, and how long the words behind it are
--   replaced: bytes whose first word, old bytes long, gave way to another; tail bytes behind it have moved
--   strip_told: a size, and a word of the strip for each pixel
--   Sides: sides of 1 to 64, and four bytes for each pixel
--   EachLawful: each word of the strip is lawful
--   strip_count, strip_all, strip_lawful: there is a lawful word for each pixel
use Rattle.std.specs.Prelude.{◌≡◌, ℕ, zero, suc, ◌+◌, ◌*◌, ◌<◌, ◌≤◌, true, List, [], ◌∷◌, ◌++◌, length, take, drop, slice_index_or, refl}
use Rattle.std.proofs.Common.{ap, arith}
use Rattle.std.specs.List.{AllByRecursion}
use Rattle.std.proofs.ByRecursion.{All-from_get_or}
use Rattle.symbols.specs.declared.symbols.Symbol.{Symbol}
use Rattle.rules.specs.Words.{lawful, Lawful}
use Rattle.model.specs.Sheets.{most_side}
use Rattle.stores.specs.Sources.{Told, LawfulTold}
use Rattle.stores.specs.Bytes.{front_word}

abbrev pub strip_words : ℕ → List ℕ → List (List Symbol)
strip_words zero bs = []
strip_words (suc n) bs = front_word bs ∷ strip_words n (drop (length (front_word bs)) bs)

abbrev pub lengths : {A : Type 0} → List (List A) → ℕ
lengths [] = 0
lengths (w ∷ ws) = length w + lengths ws

pub record Spotted (bs : List ℕ) (count pixel at old tail : ℕ) : Type 0 where
  pub before : at ≡ lengths (strip_words pixel bs)
  pub here : old ≡ length (front_word (drop at bs))
  pub all : at + old + tail ≡ lengths (strip_words count bs)
  pub within : at + old + tail ≤ length bs

abbrev pub replaced : List ℕ → ℕ → ℕ → List ℕ → List ℕ
replaced bs old tail w = w ++ (take tail (drop old bs) ++ drop (length w + tail) bs)

abbrev pub strip_told : ℕ → ℕ → List ℕ → Told
strip_told w h bs = record { width = w; height = h; words = strip_words (w * h) bs }

abbrev pub Sides : ℕ → ℕ → ℕ → Type 0
Sides w h room = (1 ≤ w) × (w ≤ most_side) × (1 ≤ h) × (h ≤ most_side) × (4 * (w * h) ≤ room)

abbrev pub EachLawful : ℕ → List ℕ → Type 0
EachLawful n bs = (i : ℕ) → i < n → lawful (slice_index_or (strip_words n bs) i []) ≡ true

pub strip_count : (n : ℕ) (bs : List ℕ) → length (strip_words n bs) ≡ n
strip_count zero bs = refl
strip_count (suc n) bs = ap suc (strip_count n (drop (length (front_word bs)) bs))

pub strip_all : (n : ℕ) (bs : List ℕ) → EachLawful n bs → AllByRecursion Lawful (strip_words n bs)
strip_all n bs e = All-from_get_or Lawful (strip_words n bs) [] (λ i l. e i (omega (arith, strip_count n bs)))

pub strip_lawful : (w h room : ℕ) (bs : List ℕ) → Sides w h room → EachLawful (w * h) bs → LawfulTold (strip_told w h bs)
strip_lawful w h room bs s e = record {
  some_width = s.0;
  most_width = s.1;
  some_height = s.2;
  most_height = s.3;
  whole = strip_count (w * h) bs;
  words = strip_all (w * h) bs e;
}
