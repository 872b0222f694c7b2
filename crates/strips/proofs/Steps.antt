-- Steps of the strip store, seen through loans of its memory.
--   refilled: what a Vec holds after its slice was lent
--   replaced_by: a shift and a word written to the front
--   found: where a question finds its word
--   spotted, stands: where a write finds its word
--   moved, rewritten: the memory after a write, and its words
use Rattle.std.proofs.Common.{◌≡◌, ℕ, suc, ◌+◌, ◌-◌, ◌<◌, ◌≤◌, List, [], ◌++◌, length, get_or, take, drop, sym, ap, ◌∙◌, append_assoc, arith, length-append, length-drop}
use lib.ListN.{length-map}
use lib.Seq.{paste}
use borrow.Rule.Slice.PartMut.{put_mid, post_of}
use Rattle.std.proofs.lemmas.List.{take_at, take_rest, length-take-le, drop_at, drop_all, append-nil}
use Rattle.std.proofs.lemmas.Bool.{le-ltb, cond-false}
use Rattle.symbols.specs.declared.symbols.Symbol.{Symbol}
use Rattle.symbols.specs.Refusals.{filled}
use Rattle.symbols.specs.Symbols.{code}
use Rattle.rules.specs.Words.{Lawful}
use Rattle.stores.specs.Bytes.{front_word, encoded}
use Rattle.strips.specs.Strips.{strip_words, lengths, replaced, Spotted, EachLawful}
use Rattle.strips.specs.Cuts.{span, strip_at, lengths_behind, Place, place_of, Placed, place_sets}

pub refilled : (len : ℕ) (items ws : List ℕ) → length ws ≡ len → take len (ws ++ drop (length ws) items) ≡ ws
refilled len items ws e = take_at ws (drop (length ws) items) len e

pub replaced_by : (bs shifted new w : List ℕ) (k old tail : ℕ) → length w ≡ k → old + tail ≤ length bs → k + tail ≤ length bs → shifted ≡ paste bs k (drop old bs) tail → new ≡ filled w shifted → new ≡ replaced bs old tail w
replaced_by bs shifted new w k old tail len before after moves fills =
    let tailed = take tail (drop old bs) in
    let behind = drop (k + tail) bs in
    let is : shifted ≡ take k bs ++ (tailed ++ behind) = moves ∙ append_assoc (take k bs) tailed behind in
    let lk : length (take k bs) ≡ k = length-take-le k bs (omega arith) in
    let long : length w ≤ length shifted = omega (arith, ap length is, length-append (take k bs) (tailed ++ behind)) in
    let past : drop (length w) shifted ≡ tailed ++ behind =
    ap (λ m. drop m shifted) len ∙ ap (drop k) is ∙ drop_at (take k bs) (tailed ++ behind) k lk in
    fills
    ∙ cond-false _ _ _ (le-ltb (length shifted) (length w) long)
    ∙ ap (λ (x : List ℕ). w ++ x) past
    ∙ ap (λ m. w ++ (tailed ++ drop (m + tail) bs)) (sym len)

pub found : (items first second : List ℕ) (n i at : ℕ) → i < n → first ≡ items → second ≡ items → at ≡ lengths (strip_words i first) → front_word (take (length second - at) (drop at second)) ≡ get_or (strip_words n items) i []
found items first second n i at h e f isat =
    ap front_word (take_rest second at ∙ ap (drop at) f)
    ∙ ap (λ m. front_word (drop m items)) (isat ∙ ap (λ x. lengths (strip_words i x)) e)
    ∙ sym (strip_at n i items h)

pub spotted : (bs : List ℕ) (n i at old tail : ℕ) → i < n → at ≤ length bs → at ≡ lengths (strip_words i bs) → old ≡ span (take (length bs - at) (drop at bs)) → tail ≡ lengths (strip_words (n - i - 1) (take (length bs - (at + old)) (drop (at + old) bs))) → tail ≤ length (take (length bs - (at + old)) (drop (at + old) bs)) → old ≤ length (take (length bs - at) (drop at bs)) → Spotted bs n i at old tail
spotted bs n i at old tail h room isat isold istail few short =
    let o : old ≡ span (drop at bs) = isold ∙ ap span (take_rest bs at) in
    let m : i + suc (n - i - 1) ≡ n = omega arith in
    let s = lengths (strip_words i bs) in
    let sp : span (drop s bs) ≡ old = ap (λ (k : ℕ). span (drop k bs)) (sym isat) ∙ sym o in
    let t : lengths (strip_words (n - i - 1) (drop (s + span (drop s bs)) bs)) ≡ tail =
    ap (λ (k : ℕ). lengths (strip_words (n - i - 1) (drop k bs))) (omega arith) ∙ sym (istail ∙ ap (λ (x : List ℕ). lengths (strip_words (n - i - 1) x)) (take_rest bs (at + old))) in
    record {
      before = isat;
      here = o;
      all = sym (ap (λ (k : ℕ). lengths (strip_words k bs)) (sym m) ∙ lengths_behind i (n - i - 1) bs ∙ omega arith);
      within = omega (arith, ap length (take_rest bs (at + old)), length-drop (at + old) bs, ap length (take_rest bs at), length-drop at bs);
    }

pub stands : (items lent : List ℕ) (n i at old tail : ℕ) → i < n → lent ≡ items → Spotted lent n i at old tail → Place n i items at old tail
stands items lent n i at old tail h e s =
    place_of n i items at old tail h
    (s.before ∙ ap (λ x. lengths (strip_words i x)) e)
    (s.here ∙ ap (λ x. span (drop at x)) e)
    (s.all ∙ ap (λ x. lengths (strip_words n x)) e)

pub moved : (m lent part w : List ℕ) (at old tail len k : ℕ) → length w ≡ k → len ≡ length m → at + old + tail ≤ len → at + k + tail ≤ len → lent ≡ m
    → part ≡ replaced (take (length lent - at) (drop at lent)) old tail w
    → take len (put_mid at (length lent - at) lent part ++ drop (length (put_mid at (length lent - at) lent part)) m) ≡ take at m ++ replaced (drop at m) old tail w
moved m lent part w at old tail len k lw size fits room is changed =
    let p = drop at m in
    let lp = length-drop at m in
    let tailed = take tail (drop old p) in
    let behind = drop (length w + tail) p in
    let part_is : part ≡ replaced p old tail w = changed ∙ ap (λ x. replaced x old tail w) (take_rest lent at ∙ ap (drop at) is) in
    let ltail : length tailed ≡ tail = length-take-le tail (drop old p) (omega (arith, length-drop old p)) in
    let lpart : length part ≡ len - at =
    ap length part_is ∙ length-append w (tailed ++ behind) ∙ omega (arith, length-append tailed behind, length-drop (length w + tail) p) in
    let k1 = length lent - at in
    let none : post_of at k1 lent ≡ [] = drop_all k1 (drop at lent) (omega (arith, length-drop at lent)) in
    let one = put_mid at k1 lent part in
    let one-is : one ≡ take at m ++ part =
    ap (λ x. take at lent ++ (part ++ x)) none ∙ ap (λ x. take at lent ++ x) (append-nil part) ∙ ap (λ x. take at x ++ part) is in
    let lat : length (take at m) ≡ at = length-take-le at m (omega arith) in
    let lone : length one ≡ len = ap length one-is ∙ length-append (take at m) part ∙ omega arith in
    refilled len m one lone ∙ one-is ∙ ap (λ x. take at m ++ x) part_is

pub rewritten : (items lent part : List ℕ) (w : List Symbol) (n i at old tail len : ℕ) → i < n → EachLawful n items → Lawful w → len ≡ length items → Place n i items at old tail → at + length w + tail ≤ len → lent ≡ items
    → part ≡ replaced (take (length lent - at) (drop at lent)) old tail (encoded w)
    → Placed n i items w (take len (put_mid at (length lent - at) lent part ++ drop (length (put_mid at (length lent - at) lent part)) items))
rewritten items lent part w n i at old tail len h each good size p room is changed =
    place_sets n i items w _ at old tail h each good p
    (moved items lent part (encoded w) at old tail len (length w) (length-map w code) size (omega (arith, p.within)) room is changed)
