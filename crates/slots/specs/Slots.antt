-- Slots of bytes, one for each pixel.
--   slot_word: the word in a slot
--   slot_words: the words in the first so many slots
--   slots_told: what they tell, with a size
--   Slots: slots of 4 to 64 bytes, room for one for each pixel, and a lawful word in each
--   OpensSlots: an opening that is accepted
--   NeverFull: no write to slots is refused because all words together are too long
use Rattle.std.specs.Prelude.{◌≡◌, ℕ, ◌*◌, ◌<◌, ◌≤◌, true, ◌≢◌, List, map, length, take, drop, Err}
use Rattle.symbols.specs.declared.refusals.Refusal.TheVariants.{OverTotal}
use Rattle.symbols.specs.declared.symbols.Symbol.{Symbol}
use Rattle.rules.specs.Words.{lawful}
use Rattle.model.specs.Darts.{up_to}
use Rattle.plain.specs.Plain.{answer, write}
use Rattle.stores.specs.Sources.{Told, Sides, plain_told}
use Rattle.stores.specs.Bytes.{front_word}

abbrev pub slot_word : ℕ → List ℕ → ℕ → List Symbol
slot_word n bs i = front_word (take n (drop (i * n) bs))

abbrev pub slot_words : ℕ → ℕ → List ℕ → List (List Symbol)
slot_words n k bs = map (slot_word n bs) (up_to k)

abbrev pub slots_told : ℕ → ℕ → ℕ → List ℕ → Told
slots_told w h n bs = record { width = w; height = h; words = slot_words n (w * h) bs }

abbrev pub Slots : ℕ → ℕ → ℕ → List ℕ → Type 0
Slots w h n bs = (4 ≤ n) × (n ≤ 64) × (w * h * n ≤ length bs) × ((i : ℕ) → i < w * h → lawful (slot_word n bs i) ≡ true)

pub record OpensSlots (room w h n : ℕ) : Type 0 where
  pub sides : Sides w h
  pub least_slot : 4 ≤ n
  pub most_slot : n ≤ 64
  pub roomy : w * h * n ≤ room

abbrev pub NeverFull : Type 0
NeverFull =
    (w h n : ℕ) (bs : List ℕ) (p : ℕ) (v : List Symbol) → Sides w h → Slots w h n bs
    → answer (plain_told (slots_told w h n bs) n (w * h * n)) (write p v) ≢ Err OverTotal
