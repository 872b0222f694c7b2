-- The words of a source that a record holds.
--   blank_part, shown_whole: a lawful word of four symbols draws nothing, and any other draws something
--   shown_long, shown_blank: a pixel's word, by its length
--   seen: there is a word exactly where a record has symbols of it
--   mark_at: a pixel is marked exactly when a record has symbols of it
--   marks_length: there is a mark for each word
--   pixels_most: there are at most 4096 pixels
--   symbols_shown: the symbols of a record, word by word
--   left_from, left_more, left_none, left_most: how many symbols the words from a pixel on have
--   putting_from, words_more, words_all: the words from a pixel on, put behind symbols, as the loop over pixels puts them
use Rattle.std.proofs.Common.{is_some, Some, None, Option, MatchOption, ◌≡◌, ℕ, zero, suc, ◌+◌, ◌*◌, ◌<◌, ◌≤◌, Bool, true, false, cond, ltb, List, [], ◌∷◌, ◌++◌, map, length, get_or, drop, filter, sym, refl, ap, ◌∙◌, arith, length-append}
use lib.ListN.{length-map}
use Rattle.std.specs.List.{flat_map, AllByRecursion}
use Rattle.std.proofs.lemmas.List.{at_drop_more, at_drop_all}
use Rattle.std.proofs.ByRecursion.{All-get_or}
use Rattle.std.proofs.lemmas.Nat.{mul-le}
use Rattle.std.proofs.lemmas.Bool.{lt-ltb, cond-true, cond-false, cond_both}
use Rattle.rows.specs.declared.row.Row.{Row}
use Rattle.rows.specs.Rows.{items}
use Rattle.symbols.specs.declared.symbols.Symbol.{Symbol}
use Rattle.rules.specs.Words.{Drawing, Lawful, drawn}
use Rattle.rules.specs.Tables.{word_of}
use Rattle.rules.proofs.Words.{parts}
use Rattle.codec.specs.Words.{symbol_bits, shown, shown_symbols}
use Rattle.codec.proofs.Reading.{joined_append}
use Rattle.codec.proofs.Words.{word_drawing, marked_at}
use Rattle.codec.proofs.Loops.{length_symbols}
use Rattle.stores.specs.Sources.{Told, LawfulTold, word_at}
use Rattle.stores.proofs.Writes.{counted}
use Rattle.recorder.specs.Packing.{put_bits, packed}
use Rattle.recorder.specs.Words.{shown_part, shown_word, Shown, marks_told}
use Rattle.recorder.proofs.Bits.{puts_join, packs}

no_crossing : (d : Drawing) → length d ≡ 0 → shown d ≡ false
no_crossing [] e = refl
no_crossing (c ∷ d) e = absurd (omega arith)

some_crossing : (d : Drawing) → (length d ≡ 0 → ⊥) → shown d ≡ true
some_crossing [] e = absurd (e refl)
some_crossing (c ∷ d) e = refl

pub blank_part : (w : List Symbol) → Lawful w → length w ≡ 4 → shown_part w ≡ []
blank_part w l e = cond-false (shown (drawn w)) w [] (no_crossing (drawn w) (omega (arith, counted w l)))

pub shown_whole : (w : List Symbol) → Lawful w → (length w ≡ 4 → ⊥) → shown_part w ≡ w
shown_whole w l n = cond-true (shown (drawn w)) w [] (some_crossing (drawn w) (λ e. n (omega (arith, counted w l))))

-- a pixel's word, by its length
pub shown_long : (t : Told) → LawfulTold t → (p : ℕ) (w : List Symbol) → p < t.width * t.height → w ≡ word_at t p → (length w ≡ 4 → ⊥) → Shown t p w
shown_long t l p w h e n =
    let good : Lawful (word_at t p) = All-get_or Lawful t.words p [] (omega (arith, l.whole)) l.words in
    let sizes = parts (word_at t p) good in
    let long : length w ≡ length (word_at t p) = ap length e in
    record {
      word = e ∙ sym (shown_whole (word_at t p) good (λ k. n (long ∙ k)));
      some = omega (arith, sizes.least, long, n);
      most = omega (arith, sizes.most, long);
    }

pub shown_blank : (t : Told) → LawfulTold t → (p : ℕ) (w : List Symbol) → p < t.width * t.height → w ≡ word_at t p → length w ≡ 4 → shown_word t p ≡ []
shown_blank t l p w h e n =
    let good : Lawful (word_at t p) = All-get_or Lawful t.words p [] (omega (arith, l.whole)) l.words in
    blank_part (word_at t p) good (ap length (sym e) ∙ n)

-- there is a word exactly where a record has symbols of it
pub seen : (t : Told) (p : ℕ) (o : Option (Row Symbol 64)) → MatchOption o (shown_word t p ≡ []) (λ w. Shown t p (items w)) → is_some o ≡ ltb 0 (length (shown_word t p))
seen t p None e = sym (ap (λ (v : List Symbol). ltb 0 (length v)) e)
seen t p (Some r) s = sym (lt-ltb 0 (length (shown_word t p)) (omega (arith, s.some, ap length s.word)))

-- all words

mark_part : (w : List Symbol) → shown (drawn w) ≡ ltb 0 (length (shown_part w))
mark_part [] = refl
mark_part (s ∷ v) = by (shown (drawn (s ∷ v)))
  where
    by : (b : Bool) → b ≡ ltb 0 (length (cond b (s ∷ v) []))
    by true = sym (lt-ltb 0 (suc (length v)) (omega arith))
    by false = refl

drawn_at : (ws : List (List Symbol)) (p : ℕ) → get_or (map drawn ws) p [] ≡ drawn (get_or ws p [])
drawn_at [] p = refl
drawn_at (w ∷ ws) zero = refl
drawn_at (w ∷ ws) (suc p) = drawn_at ws p

pub mark_at : (t : Told) (p : ℕ) → get_or (marks_told t) p false ≡ ltb 0 (length (shown_word t p))
mark_at t p = marked_at (map drawn t.words) p ∙ ap shown (drawn_at t.words p) ∙ mark_part (word_at t p)

pub marks_length : (t : Told) → length (marks_told t) ≡ length t.words
marks_length t = length-map (map drawn t.words) shown ∙ length-map t.words drawn

pub pixels_most : (t : Told) → LawfulTold t → t.width * t.height ≤ 4096
pixels_most t l = mul-le t.width t.height 64 64 l.most_width l.most_height

pub symbols_shown : (ws : List (List Symbol)) → AllByRecursion Lawful ws → shown_symbols (map drawn ws) ≡ flat_map shown_part ws
symbols_shown [] a = refl
symbols_shown (w ∷ ws) a = by (symbols_shown ws a.1) (shown (drawn w))
  where
    by : shown_symbols (map drawn ws) ≡ flat_map shown_part ws → (b : Bool) → flat_map word_of (cond b (drawn w ∷ filter shown (map drawn ws)) (filter shown (map drawn ws))) ≡ cond b w [] ++ flat_map shown_part ws
    by ih true = let k = (word_drawing w a.0).1 in cc
    by ih false = ih

-- how many symbols the words from pixel i on have
abbrev pub left_from : List (List Symbol) → ℕ → ℕ
left_from ws i = length (flat_map shown_part (drop i ws))

pub left_more : (ws : List (List Symbol)) (i : ℕ) → i < length ws → left_from ws i ≡ length (shown_part (get_or ws i [])) + left_from ws (i + 1)
left_more ws i h =
    at_drop_more (λ (x : List (List Symbol)). length (flat_map shown_part x)) ws i [] h
    ∙ length-append (shown_part (get_or ws i [])) (flat_map shown_part (drop (i + 1) ws))

pub left_none : (ws : List (List Symbol)) (i : ℕ) → length ws ≤ i → left_from ws i ≡ 0
left_none ws i h = at_drop_all (λ (x : List (List Symbol)). length (flat_map shown_part x)) ws i h

word_most : (w : List Symbol) → Lawful w → length (shown_part w) ≤ 64
word_most w l = cond_both (shown (drawn w)) w [] (λ (x : List Symbol). length x ≤ 64) (λ e. (parts w l).most) (λ e. omega arith)

pub left_most : (ws : List (List Symbol)) → AllByRecursion Lawful ws → left_from ws 0 ≤ 64 * length ws
left_most [] a = omega arith
left_most (w ∷ ws) a = omega (arith, left_more (w ∷ ws) 0 (omega arith), word_most w a.0, left_most ws a.1)

-- the words from pixel i on, put behind n symbols
abbrev pub putting_from : List ℕ → ℕ → List (List Symbol) → ℕ → List ℕ
putting_from bs n ws i = put_bits bs (3 * n) (flat_map symbol_bits (flat_map shown_part (drop i ws)))

pub words_more : (ws : List (List Symbol)) (all bs now : List ℕ) (n m i : ℕ) → i < length ws → now ≡ put_bits bs (3 * n) (flat_map symbol_bits (shown_part (get_or ws i []))) → m ≡ n + length (shown_part (get_or ws i [])) → putting_from bs n ws i ≡ all → putting_from now m ws (i + 1) ≡ all
words_more ws all bs now n m i h e k inv =
    let v = shown_part (get_or ws i []) in
    let rest = flat_map shown_part (drop (i + 1) ws) in
    let q : 3 * m ≡ 3 * n + length (flat_map symbol_bits v) = omega (arith, length_symbols v) in
    ap (λ (x : List ℕ). putting_from x m ws (i + 1)) e
    ∙ ap (λ (x : ℕ). put_bits (put_bits bs (3 * n) (flat_map symbol_bits v)) x (flat_map symbol_bits rest)) q
    ∙ sym (puts_join (flat_map symbol_bits v) (flat_map symbol_bits rest) bs (3 * n))
    ∙ ap (put_bits bs (3 * n)) (sym (joined_append symbol_bits v rest))
    ∙ sym (at_drop_more (λ (x : List (List Symbol)). put_bits bs (3 * n) (flat_map symbol_bits (flat_map shown_part x))) ws i [] h)
    ∙ inv

pub words_all : (ws : List (List Symbol)) (bs now : List ℕ) (n i : ℕ) → AllByRecursion Lawful ws → length ws ≤ i → 3 * length (shown_symbols (map drawn ws)) ≤ 8 * length bs → putting_from now n ws i ≡ putting_from bs 0 ws 0 → now ≡ packed (flat_map symbol_bits (shown_symbols (map drawn ws))) bs
words_all ws bs now n i good h room e =
    let v = shown_symbols (map drawn ws) in
    sym (at_drop_all (λ (x : List (List Symbol)). put_bits now (3 * n) (flat_map symbol_bits (flat_map shown_part x))) ws i h)
    ∙ e
    ∙ ap (λ (x : List Symbol). put_bits bs 0 (flat_map symbol_bits x)) (sym (symbols_shown ws good))
    ∙ packs (flat_map symbol_bits v) bs (omega (arith, length_symbols v))
