-- What a record source tells, from the parts of a record: its sides, the bytes of its runs, and the bytes of its symbols.
-- Bytes that are no record's parts tell something too: a side outside 1 to 64 counts as 1, and a word that is wanting or
-- not lawful as `++++`.
--   or_empty_word: a word, or `++++` where there is none
--   word_in: the word of a pixel: that of its spot in the runs, or `++++`
--   side_or_one: a side
--   record_told: what is told
--   word_in_lawful, record_lawful: each word is lawful
use Rattle.std.specs.Prelude.{◌≡◌, ℕ, ◌*◌, ◌≤◌, Bool, true, false, cond, List, [], map, Some, None, Option, nat_le, refl}
use Rattle.std.proofs.Common.{sym, subst, arith}
use Rattle.std.proofs.ByRecursion.{All-from_get_or}
use Rattle.std.proofs.lemmas.Bool.{and_parts, leb-true}
use Rattle.symbols.specs.declared.symbols.Symbol.{Symbol}
use Rattle.rules.specs.Words.{lawful, Lawful}
use Rattle.model.specs.Sheets.{most_side}
use Rattle.model.specs.Darts.{up_to}
use Rattle.codec.specs.Reading.{and_then, guard}
use Rattle.codec.specs.Bits.{bits_of}
use Rattle.codec.specs.Words.{cut}
use Rattle.codec.specs.Runs.{Run}
use Rattle.codec.specs.Records.{side}
use Rattle.stores.specs.Sources.{Told, LawfulTold, empty_word}
use Rattle.stores.specs.Numbered.{word_numbered, words_numbered}
use Rattle.records.specs.Stretches.{run_list, spot}
use Rattle.records.specs.Behind.{skips, any_word, word_behind}

abbrev pub or_empty_word : Option (List Symbol) → List Symbol
or_empty_word None = empty_word
or_empty_word (Some w) = w

abbrev pub word_in : ℕ → List Run → List Bool → ℕ → List Symbol
word_in end rs bits p = or_empty_word (and_then (spot 0 end rs p) (λ n. word_behind n bits))

abbrev pub side_or_one : ℕ → ℕ
side_or_one n = cond (side n) n 1

abbrev pub record_told : ℕ → ℕ → List ℕ → List ℕ → Told
record_told w h runs symbols = record {
  width = side_or_one w;
  height = side_or_one h;
  words = map (word_in (side_or_one w * side_or_one h) (run_list runs) (bits_of symbols)) (up_to (side_or_one w * side_or_one h));
}

side_fine : (n : ℕ) → (1 ≤ side_or_one n) × (side_or_one n ≤ most_side)
side_fine n = by (side n) refl
  where
    by : (t : Bool) → side n ≡ t → (1 ≤ cond t n 1) × (cond t n 1 ≤ most_side)
    by true e = (let p = and_parts (nat_le 1 n) (nat_le n most_side) e in (leb-true 1 n p.0, leb-true n most_side p.1))
    by false e = (omega arith, omega arith)

pub word_in_lawful : (end : ℕ) (rs : List Run) (bits : List Bool) (p : ℕ) → Lawful (word_in end rs bits p)
word_in_lawful end rs bits p = spotted (spot 0 end rs p)
  where
    judged : (t : Bool) (w : List Symbol) → lawful w ≡ t → Lawful (or_empty_word (guard t (Some w)))
    judged true w e = e
    judged false w e = refl

    off : (o : Option (List Symbol × List Bool)) → Lawful (or_empty_word (and_then o (λ p. guard (lawful p.0) (Some p.0))))
    off None = refl
    off (Some p) = judged (lawful p.0) p.0 refl

    skipped : (o : Option (List Bool)) → Lawful (or_empty_word (and_then o (λ rest. and_then (cut 64 4 rest) (λ p. guard (lawful p.0) (Some p.0)))))
    skipped None = refl
    skipped (Some rest) = off (cut 64 4 rest)

    spotted : (o : Option ℕ) → Lawful (or_empty_word (and_then o (λ n. word_behind n bits)))
    spotted None = refl
    spotted (Some n) = skipped (skips any_word n bits)

pub record_lawful : (w h : ℕ) (runs symbols : List ℕ) → LawfulTold (record_told w h runs symbols)
record_lawful w h runs symbols =
    let n = side_or_one w * side_or_one h in
    let f = word_in n (run_list runs) (bits_of symbols) in
    record {
      some_width = (side_fine w).0;
      most_width = (side_fine w).1;
      some_height = (side_fine h).0;
      most_height = (side_fine h).1;
      whole = words_numbered f n;
      words = All-from_get_or Lawful (map f (up_to n)) [] (λ i l.
          subst Lawful (sym (word_numbered f n i (omega (arith, words_numbered f n)))) (word_in_lawful n (run_list runs) (bits_of symbols) i));
    }
