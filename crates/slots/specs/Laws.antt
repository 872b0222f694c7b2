-- That slots tell lawful words; a store hands this on.
--   word_there, length_words: the words of slots by number, and how many there are
--   slots_lawful: slots tell lawful words
use Rattle.std.specs.Prelude.{◌≡◌, ℕ, ◌*◌, ◌<◌, List, [], length, slice_index_or}
use Rattle.std.proofs.Common.{sym, subst, arith}
use Rattle.std.proofs.ByRecursion.{All-from_get_or}
use Rattle.rules.specs.Words.{Lawful}
use Rattle.stores.specs.Sources.{LawfulTold, Sides}
use Rattle.stores.specs.Numbered.{word_numbered, words_numbered}
use Rattle.slots.specs.Slots.{slot_word, slot_words, slots_told, Slots}

pub word_there : (n k : ℕ) (bs : List ℕ) (i : ℕ) → i < k → slice_index_or (slot_words n k bs) i [] ≡ slot_word n bs i
word_there n k bs i h = word_numbered (slot_word n bs) k i h

pub length_words : (n k : ℕ) (bs : List ℕ) → length (slot_words n k bs) ≡ k
length_words n k bs = words_numbered (slot_word n bs) k

pub slots_lawful : (w h n : ℕ) (bs : List ℕ) → Sides w h → Slots w h n bs → LawfulTold (slots_told w h n bs)
slots_lawful w h n bs d s = record {
  some_width = d.0;
  most_width = d.1;
  some_height = d.2;
  most_height = d.3;
  whole = length_words n (w * h) bs;
  words = All-from_get_or Lawful (slot_words n (w * h) bs) [] (λ i l.
      let b : i < w * h = omega (arith, length_words n (w * h) bs) in
      subst Lawful (sym (word_there n (w * h) bs i b)) (s.3 i b));
}
