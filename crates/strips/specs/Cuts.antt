-- Words one behind the other, as bytes.
--   span: how many bytes the word at the front has
--   cuts: the bytes of the first n words
--   strung: bytes one behind the other
--   words_cut, lengths_cut: the words of a strip by their bytes
--   Known, known_cuts, each_cuts: each word is lawful
--   span_within, cuts_length: as many bytes as there are, and as many words as are asked for
--   strip_at: where a word begins
--   lengths_more, lengths_behind: one word further, and all behind a word
--   lengths_within: the words end where the bytes end or before
--   cuts_strung: lawful words one behind the other are cut off as they are
--   Place, place_of, word_within: a word at `at`, old bytes long, with tail bytes of words behind it
--   symbols_told: how many symbols lawful words have together
--   word_short, all_short: a lawful word has at most 64 symbols
--   Placed, place_sets, sum_placed: the words after one gave way to another
--   blank_bytes, Blanked, blank_cuts: the words of corners only
use Rattle.std.specs.Prelude.{◌≡◌, ℕ, zero, suc, ◌+◌, ◌*◌, ◌<◌, ◌≤◌, true, List, [], ◌∷◌, ◌++◌, map, length, get_or, take, drop, set, replicate, slice_index_or, slice_set, refl}
use Rattle.std.proofs.Common.{sym, ap, subst, ◌∙◌, ⊎_elim, append_assoc, arith, add-one, length-set, length-drop, length-append}
use Rattle.std.specs.List.{AllByRecursion}
use Rattle.std.proofs.ByRecursion.{All-set, All-weaker}
use Rattle.std.proofs.lemmas.List.{take_at, drop_at, drop-drop, take-append-drop, set_split, length-take-le, drop_more, get_or-set_same, get_or-set_other, get_or-replicate, length-replicate, map-append, map-set, take-map, get_or-map, length-map}
use Rattle.std.proofs.lemmas.List.Sums.{sum_by-cons}
use Rattle.std.proofs.lemmas.Bool.{cases_eq}
use Rattle.symbols.specs.declared.symbols.Symbol.{Symbol}
use Rattle.symbols.specs.Symbols.{code}
use Rattle.rules.specs.Words.{lawful, Lawful, drawn}
use Rattle.rules.proofs.Words.{parts}
use Rattle.codec.specs.Words.{left}
use Rattle.codec.specs.Loops.{up_to}
use Rattle.codec.proofs.Words.{lawful_ends}
use Rattle.codec.proofs.Loops.{up_to_word}
use Rattle.plain.specs.Plain.{symbols_in, symbols_of}
use Rattle.stores.specs.Bytes.{decode, decoded, front_word, encoded}
use Rattle.stores.proofs.Fronts.{up_to_take, decoded_encoded}
use Rattle.stores.proofs.Writes.{counted}
use Rattle.stores.specs.Sources.{empty_word}
use Rattle.strips.specs.Strips.{strip_words, lengths, replaced, EachLawful, strip_all}

abbrev pub span : List ℕ → ℕ
span bs = length (front_word bs)

abbrev pub cuts : ℕ → List ℕ → List (List ℕ)
cuts zero bs = []
cuts (suc n) bs = take (span bs) bs ∷ cuts n (drop (span bs) bs)

abbrev pub strung : List (List ℕ) → List ℕ
strung [] = []
strung (w ∷ ws) = w ++ strung ws

up_to_within : (z : ℕ) (v : List Symbol) → length (up_to z v) ≤ length v
up_to_within zero v = omega arith
up_to_within (suc z) [] = omega arith
up_to_within (suc z) (s ∷ v) = omega (arith, up_to_within (left s z) v)

pub span_within : (bs : List ℕ) → span bs ≤ length bs
span_within bs = omega (arith, up_to_within 4 (decoded bs), length-map bs decode)

pub cuts_length : (n : ℕ) (bs : List ℕ) → length (cuts n bs) ≡ n
cuts_length zero bs = refl
cuts_length (suc n) bs = ap suc (cuts_length n (drop (span bs) bs))

-- the words of a strip by their bytes

pub words_cut : (n : ℕ) (bs : List ℕ) → strip_words n bs ≡ map decoded (cuts n bs)
words_cut zero bs = refl
words_cut (suc n) bs =
    let front : front_word bs ≡ decoded (take (span bs) bs) = up_to_take 4 (decoded bs) ∙ take-map decode (span bs) bs in
    let rest = words_cut n (drop (span bs) bs) in
    λ k. front k ∷ rest k

lengths_decoded : (ws : List (List ℕ)) → lengths (map decoded ws) ≡ lengths ws
lengths_decoded [] = refl
lengths_decoded (w ∷ ws) = omega (arith, length-map w decode, lengths_decoded ws)

pub lengths_cut : (n : ℕ) (bs : List ℕ) → lengths (strip_words n bs) ≡ lengths (cuts n bs)
lengths_cut n bs = ap lengths (words_cut n bs) ∙ lengths_decoded (cuts n bs)

abbrev pub Known : List (List ℕ) → Type 0
Known ws = (i : ℕ) → i < length ws → lawful (decoded (slice_index_or ws i [])) ≡ true

word_cut : (n : ℕ) (bs : List ℕ) (i : ℕ) → i < n → slice_index_or (strip_words n bs) i [] ≡ decoded (slice_index_or (cuts n bs) i [])
word_cut n bs i l = ap (λ (x : List (List Symbol)). get_or x i []) (words_cut n bs) ∙ get_or-map decoded (cuts n bs) i [] [] (omega (arith, cuts_length n bs))

pub known_cuts : (n : ℕ) (bs : List ℕ) → EachLawful n bs → Known (cuts n bs)
known_cuts n bs e i l =
    let h : i < n = omega (arith, cuts_length n bs) in
    sym (ap lawful (word_cut n bs i h)) ∙ e i h

pub each_cuts : (n : ℕ) (bs : List ℕ) → Known (cuts n bs) → EachLawful n bs
each_cuts n bs k i l = ap lawful (word_cut n bs i l) ∙ k i (omega (arith, cuts_length n bs))

-- where words begin

pub strip_at : (n i : ℕ) (bs : List ℕ) → i < n → slice_index_or (strip_words n bs) i [] ≡ front_word (drop (lengths (strip_words i bs)) bs)
strip_at zero i bs h = absurd (omega arith)
strip_at (suc n) zero bs h = refl
strip_at (suc n) (suc i) bs h =
    let k = span bs in
    strip_at n i (drop k bs) (omega arith) ∙ ap front_word (drop-drop (lengths (strip_words i (drop k bs))) k bs)

lengths_suc : (i : ℕ) (bs : List ℕ) → lengths (strip_words (suc i) bs) ≡ lengths (strip_words i bs) + span (drop (lengths (strip_words i bs)) bs)
lengths_suc zero bs = omega arith
lengths_suc (suc i) bs =
    let k = span bs in
    omega (arith, lengths_suc i (drop k bs), ap span (drop-drop (lengths (strip_words i (drop k bs))) k bs))

pub lengths_more : (i : ℕ) (bs : List ℕ) → lengths (strip_words (i + 1) bs) ≡ lengths (strip_words i bs) + span (drop (lengths (strip_words i bs)) bs)
lengths_more i bs = rw add-one (lengths_suc i bs)

-- the words behind a word, counted from its end
pub lengths_behind : (i m : ℕ) (bs : List ℕ) → lengths (strip_words (i + suc m) bs) ≡ lengths (strip_words i bs) + span (drop (lengths (strip_words i bs)) bs) + lengths (strip_words m (drop (lengths (strip_words i bs) + span (drop (lengths (strip_words i bs)) bs)) bs))
lengths_behind zero m bs =
    let e : 0 + suc m ≡ suc m = omega arith in
    let f : span bs ≡ 0 + span bs = omega arith in
    let q : lengths (strip_words m (drop (span bs) bs)) ≡ lengths (strip_words m (drop (0 + span bs) bs)) = ap (λ (k : ℕ). lengths (strip_words m (drop k bs))) f in
    ap (λ (k : ℕ). lengths (strip_words k bs)) e ∙ omega arith
lengths_behind (suc i) m bs =
    let k = span bs in
    let rest = drop k bs in
    let n = lengths (strip_words i rest) in
    let e : suc i + suc m ≡ suc (i + suc m) = omega arith in
    let d : drop n rest ≡ drop (k + n) bs = drop-drop n k bs in
    let f : span (drop n rest) ≡ span (drop (k + n) bs) = ap span d in
    let g : drop (n + span (drop n rest)) rest ≡ drop (k + n + span (drop (k + n) bs)) bs =
    drop-drop (n + span (drop n rest)) k bs ∙ ap (λ (j : ℕ). drop j bs) (omega arith) in
    let h : lengths (strip_words m (drop (n + span (drop n rest)) rest)) ≡ lengths (strip_words m (drop (k + n + span (drop (k + n) bs)) bs)) = ap (λ (x : List ℕ). lengths (strip_words m x)) g in
    ap (λ (j : ℕ). lengths (strip_words j bs)) e ∙ omega (arith, lengths_behind i m rest)

length_strung : (ws : List (List ℕ)) → length (strung ws) ≡ lengths ws
length_strung [] = refl
length_strung (w ∷ ws) = length-append w (strung ws) ∙ ap (λ n. length w + n) (length_strung ws)

strung_append : (ws vs : List (List ℕ)) → strung (ws ++ vs) ≡ strung ws ++ strung vs
strung_append [] vs = refl
strung_append (w ∷ ws) vs = ap (λ x. w ++ x) (strung_append ws vs) ∙ sym (append_assoc w (strung ws) (strung vs))

lengths_append : (ws vs : List (List ℕ)) → lengths (ws ++ vs) ≡ lengths ws + lengths vs
lengths_append [] vs = omega arith
lengths_append (w ∷ ws) vs = omega (arith, lengths_append ws vs)

strung_cuts : (n : ℕ) (bs : List ℕ) → strung (cuts n bs) ++ drop (lengths (cuts n bs)) bs ≡ bs
strung_cuts zero bs = refl
strung_cuts (suc n) bs =
    let k = span bs in
    let ws = cuts n (drop k bs) in
    let len : length (take k bs) ≡ k = length-take-le k bs (span_within bs) in
    let d : drop (length (take k bs) + lengths ws) bs ≡ drop (lengths ws) (drop k bs) =
    ap (λ m. drop (m + lengths ws) bs) len ∙ sym (drop-drop (lengths ws) k bs) in
    append_assoc (take k bs) (strung ws) _
    ∙ ap (λ x. take k bs ++ (strung ws ++ x)) d
    ∙ ap (λ x. take k bs ++ x) (strung_cuts n (drop k bs))
    ∙ take-append-drop k bs

cuts_within : (n : ℕ) (bs : List ℕ) → lengths (cuts n bs) ≤ length bs
cuts_within n bs = omega (arith, simp length-append at (ap length (strung_cuts n bs)), length_strung (cuts n bs))

pub lengths_within : (n : ℕ) (bs : List ℕ) → lengths (strip_words n bs) ≤ length bs
lengths_within n bs = omega (arith, cuts_within n bs, lengths_cut n bs)

-- a lawful word ends at its fourth corner, whatever comes behind it
word_span : (w rest : List ℕ) → lawful (decoded w) ≡ true → span (w ++ rest) ≡ length w
word_span w rest h =
    ap length (ap (up_to 4) (map-append decode w rest) ∙ up_to_word (decoded w) 4 (decoded rest) (lawful_ends (decoded w) h) (sym (parts (decoded w) h).four)) ∙ length-map w decode

pub cuts_strung : (ws : List (List ℕ)) (rest : List ℕ) → Known ws → cuts (length ws) (strung ws ++ rest) ≡ ws
cuts_strung [] rest h = refl
cuts_strung (w ∷ ws) rest h =
    let more = strung ws ++ rest in
    let whole : (w ++ strung ws) ++ rest ≡ w ++ more = append_assoc w (strung ws) rest in
    let s : span (w ++ more) ≡ length w = word_span w more (h 0 (omega arith)) in
    let tail : cuts (length ws) more ≡ ws = cuts_strung ws rest (λ i l. h (suc i) (omega arith)) in
    let first : take (span (w ++ more)) (w ++ more) ≡ w = take_at w more _ (sym s) in
    let behind : drop (span (w ++ more)) (w ++ more) ≡ more = drop_at w more _ (sym s) in
    ap (λ bs. cuts (suc (length ws)) bs) whole
    ∙ ap (λ x. x ∷ cuts (length ws) (drop (span (w ++ more)) (w ++ more))) first
    ∙ ap (λ x. w ∷ cuts (length ws) x) behind
    ∙ ap (λ x. w ∷ x) tail

-- one word among the others

cuts_front : (n i : ℕ) (bs : List ℕ) → i < n → take i (cuts n bs) ≡ cuts i bs
cuts_front zero i bs h = absurd (omega arith)
cuts_front (suc n) zero bs h = refl
cuts_front (suc n) (suc i) bs h = ap (λ x. take (span bs) bs ∷ x) (cuts_front n i (drop (span bs) bs) (omega arith))

record Amid (n i : ℕ) (bs : List ℕ) (at old : ℕ) : Type 0 where
  len : length (slice_index_or (cuts n bs) i []) ≡ old
  list : cuts n bs ≡ take i (cuts n bs) ++ (slice_index_or (cuts n bs) i [] ∷ drop (suc i) (cuts n bs))
  before : lengths (take i (cuts n bs)) ≡ at
  sum : lengths (cuts n bs) ≡ at + (old + lengths (drop (suc i) (cuts n bs)))

amid : (n i : ℕ) (bs : List ℕ) (at old : ℕ) → i < n → at ≡ lengths (strip_words i bs) → old ≡ span (drop at bs) → Amid n i bs at old
amid n i bs at old h isat isold =
    let ws = cuts n bs in
    let o = get_or ws i [] in
    let count = cuts_length n bs in
    let same : decoded o ≡ front_word (drop at bs) =
    sym (word_cut n bs i h) ∙ strip_at n i bs h ∙ ap (λ m. front_word (drop m bs)) (sym isat) in
    let len : length o ≡ old = sym (length-map o decode) ∙ ap length same ∙ sym isold in
    let list : ws ≡ take i ws ++ (o ∷ drop (suc i) ws) =
    sym (take-append-drop i ws) ∙ ap (λ x. take i ws ++ x) (rw add-one at (drop_more ws i [] (omega arith))) in
    let before : lengths (take i ws) ≡ at = ap lengths (cuts_front n i bs h) ∙ sym (lengths_cut i bs) ∙ sym isat in
    let sum : lengths ws ≡ lengths (take i ws) + (length o + lengths (drop (suc i) ws)) = ap lengths list ∙ lengths_append (take i ws) (o ∷ drop (suc i) ws) in
    record { len = len; list = list; before = before; sum = omega arith }

pub word_within : (n i : ℕ) (bs : List ℕ) (at old : ℕ) → i < n → at ≡ lengths (strip_words i bs) → old ≡ span (drop at bs) → at + old ≤ lengths (strip_words n bs)
word_within n i bs at old h isat isold = (let a = amid n i bs at old h isat isold in omega (arith, a.sum, lengths_cut n bs))

pub record Place (n i : ℕ) (bs : List ℕ) (at old tail : ℕ) : Type 0 where
  pub within : at + old + tail ≤ length bs
  pub front : take at bs ≡ strung (take i (cuts n bs))
  pub back : take tail (drop old (drop at bs)) ≡ strung (drop (suc i) (cuts n bs))

pub place_of : (n i : ℕ) (bs : List ℕ) (at old tail : ℕ) → i < n → at ≡ lengths (strip_words i bs) → old ≡ span (drop at bs) → at + old + tail ≡ lengths (strip_words n bs) → Place n i bs at old tail
place_of n i bs at old tail h isat isold istail =
    let ws = cuts n bs in
    let m = amid n i bs at old h isat isold in
    let a = strung (take i ws) in
    let o = get_or ws i [] in
    let t = strung (drop (suc i) ws) in
    let rest = drop (lengths ws) bs in
    let la : length a ≡ at = length_strung (take i ws) ∙ m.before in
    let lt : length t ≡ tail = omega (arith, length_strung (drop (suc i) ws), m.sum, lengths_cut n bs) in
    let str : strung ws ≡ a ++ (o ++ t) = ap strung m.list ∙ strung_append (take i ws) (o ∷ drop (suc i) ws) in
    let split : bs ≡ a ++ ((o ++ t) ++ rest) = sym (strung_cuts n bs) ∙ ap (λ x. x ++ rest) str ∙ append_assoc a (o ++ t) rest in
    let behind : drop at bs ≡ o ++ (t ++ rest) = ap (drop at) split ∙ drop_at a ((o ++ t) ++ rest) at la ∙ append_assoc o t rest in
    record {
      within = omega (arith, lengths_within n bs);
      front = ap (take at) split ∙ take_at a ((o ++ t) ++ rest) at la;
      back = ap (λ x. take tail (drop old x)) behind ∙ ap (take tail) (drop_at o (t ++ rest) old m.len) ∙ take_at t rest tail lt;
    }

-- one word gave way to another

known_set : (ws : List (List ℕ)) (i : ℕ) (w : List ℕ) → i < length ws → lawful (decoded w) ≡ true → Known ws → Known (slice_set ws i w)
known_set ws i w there good h k l =
    ⊎_elim
    (λ (e : k ≡ i). ap (λ j. lawful (decoded (slice_index_or (slice_set ws i w) j []))) e ∙ ap (λ (x : List ℕ). lawful (decoded x)) (get_or-set_same ws i w [] there) ∙ good)
    (λ (ne : k ≡ i → ⊥). ap (λ (x : List ℕ). lawful (decoded x)) (get_or-set_other ws i k w [] ne) ∙ h k (omega (arith, length-set ws i w)))
    (cases_eq k i)

words_set : (n i : ℕ) (bs : List ℕ) (w : List Symbol) → map decoded (slice_set (cuts n bs) i (encoded w)) ≡ slice_set (strip_words n bs) i w
words_set n i bs w =
    map-set decoded (cuts n bs) i (encoded w)
    ∙ ap (λ (x : List (List Symbol)). set x i (decoded (encoded w))) (sym (words_cut n bs))
    ∙ ap (λ (x : List Symbol). set (strip_words n bs) i x) (decoded_encoded w)

pub record Placed (n i : ℕ) (bs : List ℕ) (w : List Symbol) (new : List ℕ) : Type 0 where
  pub words : strip_words n new ≡ slice_set (strip_words n bs) i w
  pub each : EachLawful n new

pub place_sets : (n i : ℕ) (bs : List ℕ) (w : List Symbol) (new : List ℕ) (at old tail : ℕ) → i < n → EachLawful n bs → Lawful w → Place n i bs at old tail → new ≡ take at bs ++ replaced (drop at bs) old tail (encoded w) → Placed n i bs w new
place_sets n i bs w new at old tail h each good p is =
    let ws = cuts n bs in
    let v = encoded w in
    let count = cuts_length n bs in
    let a = strung (take i ws) in
    let t = strung (drop (suc i) ws) in
    let rest = drop (length v + tail) (drop at bs) in
    let there : i < length ws = omega arith in
    let list : set ws i v ≡ take i ws ++ (v ∷ drop (suc i) ws) = set_split ws i v there in
    let str : strung (slice_set ws i v) ≡ a ++ (v ++ t) = ap strung list ∙ strung_append (take i ws) (v ∷ drop (suc i) ws) in
    let new_is : new ≡ strung (slice_set ws i v) ++ rest =
    is
    ∙ ap (λ x. x ++ (v ++ (take tail (drop old (drop at bs)) ++ rest))) p.front
    ∙ ap (λ x. a ++ (v ++ (x ++ rest))) p.back
    ∙ ap (λ x. a ++ x) (sym (append_assoc v t rest))
    ∙ sym (append_assoc a (v ++ t) rest)
    ∙ ap (λ x. x ++ rest) (sym str) in
    let good-set : Known (slice_set ws i v) = known_set ws i v there (ap lawful (decoded_encoded w) ∙ good) (known_cuts n bs each) in
    let len : n ≡ length (slice_set ws i v) = sym (length-set ws i v ∙ count) in
    let cut : cuts n new ≡ set ws i v =
    ap (λ x. cuts n x) new_is ∙ ap (λ m. cuts m (strung (slice_set ws i v) ++ rest)) len ∙ cuts_strung (slice_set ws i v) rest good-set in
    record {
      words = words_cut n new ∙ ap (map decoded) cut ∙ words_set n i bs w;
      each = each_cuts n new (subst Known (sym cut) good-set);
    }

pub symbols_told : (ws : List (List Symbol)) → AllByRecursion Lawful ws → symbols_of (map drawn ws) ≡ lengths ws
symbols_told [] a = refl
symbols_told (w ∷ ws) a = sum_by-cons symbols_in (drawn w) (map drawn ws) ∙ omega (arith, counted w a.0, symbols_told ws a.1)

pub word_short : (w : List Symbol) → Lawful w → length w ≤ 64
word_short w l = (parts w l).most

pub all_short : (ws : List (List Symbol)) → AllByRecursion Lawful ws → AllByRecursion (λ w. length w ≤ 64) ws
all_short ws a = All-weaker Lawful (λ w. length w ≤ 64) word_short ws a

pub sum_placed : (n i : ℕ) (bs : List ℕ) (w : List Symbol) (at old tail : ℕ) → i < n → EachLawful n bs → Lawful w → Place n i bs at old tail → symbols_of (slice_set (map drawn (strip_words n bs)) i (drawn w)) ≡ at + length w + tail
sum_placed n i bs w at old tail h each good p =
    let ws = cuts n bs in
    let v = encoded w in
    let count = cuts_length n bs in
    let all = All-set Lawful (strip_words n bs) i w good (strip_all n bs each) in
    let list : set ws i v ≡ take i ws ++ (v ∷ drop (suc i) ws) = set_split ws i v (omega arith) in
    let sum : lengths (slice_set ws i v) ≡ lengths (take i ws) + (length v + lengths (drop (suc i) ws)) = ap lengths list ∙ lengths_append (take i ws) (v ∷ drop (suc i) ws) in
    let la : length (take at bs) ≡ at = length-take-le at bs (omega (arith, p.within)) in
    let lt : length (take tail (drop old (drop at bs))) ≡ tail = length-take-le tail (drop old (drop at bs)) (omega (arith, p.within, length-drop old (drop at bs), length-drop at bs)) in
    let told : symbols_of (slice_set (map drawn (strip_words n bs)) i (drawn w)) ≡ lengths (slice_set ws i v) =
    ap symbols_of (sym (map-set drawn (strip_words n bs) i w))
    ∙ symbols_told (slice_set (strip_words n bs) i w) all
    ∙ ap lengths (sym (words_set n i bs w))
    ∙ lengths_decoded (slice_set ws i v) in
    told ∙ omega (arith, length_strung (drop (suc i) ws), length_strung (take i ws), ap length p.front, ap length p.back, length-map w code)

-- corners only

abbrev blank_bytes : List ℕ
blank_bytes = 0 ∷ 0 ∷ 0 ∷ 0 ∷ []

strung_blank : (n : ℕ) → strung (replicate n blank_bytes) ≡ replicate (4 * n) 0
strung_blank zero = refl
strung_blank (suc n) =
    let e : 4 * suc n ≡ suc (suc (suc (suc (4 * n)))) = omega arith in
    rw e (ap (λ x. 0 ∷ 0 ∷ 0 ∷ 0 ∷ x) (strung_blank n))

decoded_blank : (n : ℕ) → map decoded (replicate n blank_bytes) ≡ replicate n empty_word
decoded_blank zero = refl
decoded_blank (suc n) = ap (λ (x : List (List Symbol)). empty_word ∷ x) (decoded_blank n)

pub record Blanked (n : ℕ) (new : List ℕ) : Type 0 where
  pub words : strip_words n new ≡ replicate n empty_word
  pub each : EachLawful n new

pub blank_cuts : (n : ℕ) (new rest : List ℕ) → new ≡ replicate (4 * n) 0 ++ rest → Blanked n new
blank_cuts n new rest is =
    let ws = replicate n blank_bytes in
    let good : Known ws = λ k l. ap (λ (x : List ℕ). lawful (decoded x)) (get_or-replicate n k blank_bytes [] (omega (arith, length-replicate n blank_bytes))) in
    let cut : cuts n new ≡ ws =
    ap (λ x. cuts n x) (is ∙ ap (λ x. x ++ rest) (sym (strung_blank n)))
    ∙ ap (λ m. cuts m (strung ws ++ rest)) (sym (length-replicate n blank_bytes)) ∙ cuts_strung ws rest good in
    record {
      words = words_cut n new ∙ ap (map decoded) cut ∙ decoded_blank n;
      each = each_cuts n new (subst Known (sym cut) good);
    }
