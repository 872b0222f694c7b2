-- The words of a record passed in order.
--   ahead_first: before the first pixel all words are to come
--   spot_low: no run to come holds a pixel before them
--   enter: a run begins at the present pixel
--   outside_word: a pixel in no run
--   inside_word, inside_on: a pixel in a run, and the words behind it
--   behind_none: the words behind one that is wanting
--   same_encoded: words with the same codes
--   same_ahead, one_on: what is told of the present pixel, and the words to come
use Rattle.std.proofs.Common.{◌≡◌, ℕ, zero, suc, ◌+◌, ◌-◌, ◌*◌, ◌<◌, ◌≤◌, Bool, true, false, cond, eqb, ltb, leb, List, [], ◌∷◌, length, get_or, drop, Some, None, Option, sym, refl, ap, ◌∙◌, arith}
use Rattle.std.specs.Option.{option_map}
use Rattle.std.proofs.lemmas.Bool.{and_parts, and_left, eqb-true, le-leb, lt-leb, lt-ltb, le-ltb}
use Rattle.symbols.specs.declared.symbols.Symbol.{Symbol}
use Rattle.rules.specs.Words.{lawful}
use Rattle.codec.specs.Reading.{and_then, guard}
use Rattle.codec.specs.Words.{cut}
use Rattle.codec.specs.Runs.{Run, within}
use Rattle.std.proofs.lemmas.List.{drop_more}
use Rattle.stores.specs.Bytes.{encoded, decoded}
use Rattle.stores.specs.Sources.{empty_word}
use Rattle.stores.proofs.Fronts.{decoded_encoded}
use Rattle.records.specs.Stretches.{follows, spot}
use Rattle.records.specs.Behind.{any_word, skips, word_behind}
use Rattle.records.specs.Told.{or_empty_word, word_in}
use Rattle.records.specs.Ahead.{begins, spot_ahead, word_ahead, SameBehind}
use Rattle.records.proofs.Spots.{follows_parts}

pub ahead_first : (end : ℕ) (rs : List Run) (bits : List Bool) (k : ℕ) → word_ahead end 0 0 0 rs bits k ≡ word_in end rs bits k
ahead_first end rs bits k = rw (le-ltb k (0 + 0) (omega arith)) (by (spot 0 end rs k))
  where
    by : (o : Option ℕ) → or_empty_word (and_then (option_map (λ n. 0 + n) o) (λ n. word_behind n bits)) ≡ or_empty_word (and_then o (λ n. word_behind n bits))
    by None = refl
    by (Some n) = ap (λ (m : ℕ). or_empty_word (word_behind m bits)) (omega arith)

pub spot_low : (low end : ℕ) (rs : List Run) (k : ℕ) → k < low → spot low end rs k ≡ None
spot_low low end [] k h = refl
spot_low low end (r ∷ rs) k h = by (follows low end r) refl (λ q. spot_low (suc (r.offset + r.count)) end rs k q)
  where
    by : (t : Bool) → follows low end r ≡ t → (k < suc (r.offset + r.count) → spot (suc (r.offset + r.count)) end rs k ≡ None) → cond t (cond (within r k) (Some (k - r.offset)) (option_map (λ n. r.count + n) (spot (suc (r.offset + r.count)) end rs k))) None ≡ None
    by true e ih =
        let f = follows_parts low end r e in
        let b = f.begins in
        let w : within r k ≡ false = and_left (leb r.offset k) (ltb k (r.offset + r.count)) (lt-leb r.offset k (omega arith)) in
        rw (w, ih (omega arith))
    by false e ih = refl

pub enter : (low end p m : ℕ) (rs rest : List Run) (r : Run) (k : ℕ) → rs ≡ r ∷ rest → begins low end r p ≡ true → m ≡ r.offset + r.count + 1 → p ≤ k → spot_ahead end p r.count m rest k ≡ spot_ahead end p 0 low rs k
enter low end p m rs rest r k is e q h =
    let a = and_parts (follows low end r) (eqb r.offset p) e in
    let o : r.offset ≡ p = eqb-true r.offset p a.1 in
    let s : m ≡ suc (r.offset + r.count) = omega arith in
    let z : ltb k (p + 0) ≡ false = le-ltb k (p + 0) (omega arith) in
    let w : within r k ≡ ltb k (p + r.count) = rw (le-leb r.offset k (omega arith)) (ap (λ (x : ℕ). ltb k (x + r.count)) o) in
    ap (λ (x : ℕ). cond (ltb k (p + r.count)) (Some (k - p)) (option_map (λ n. r.count + n) (spot x end rest k))) s
    ∙ sym (
    ap (λ (t : Bool). cond t (Some (k - p)) (option_map (λ n. 0 + n) (spot low end rs k))) z
    ∙ none (spot low end rs k)
    ∙ ap (λ (l : List Run). spot low end l k) is
    ∙ ap (λ (t : Bool). cond t (cond (within r k) (Some (k - r.offset)) (option_map (λ n. r.count + n) (spot (suc (r.offset + r.count)) end rest k))) None) a.0
    ∙ ap (λ (t : Bool). cond t (Some (k - r.offset)) (option_map (λ n. r.count + n) (spot (suc (r.offset + r.count)) end rest k))) w
    ∙ ap (λ (x : ℕ). cond (ltb k (p + r.count)) (Some (k - x)) (option_map (λ n. r.count + n) (spot (suc (r.offset + r.count)) end rest k))) o)
  where
    none : (o : Option ℕ) → option_map (λ n. 0 + n) o ≡ o
    none None = refl
    none (Some n) = ap Some (omega arith)

-- a pixel in no run

pub outside_word : (end p low : ℕ) (rs : List Run) (bits : List Bool) → p < low → word_ahead end p 0 low rs bits p ≡ empty_word
outside_word end p low rs bits h =
    let z : ltb p (p + 0) ≡ false = le-ltb p (p + 0) (omega arith) in
    rw (z, spot_low low end rs p h)

-- a pixel in a run

pub inside_word : (end p inside low : ℕ) (rs : List Run) (bits : List Bool) → 1 ≤ inside → word_ahead end p inside low rs bits p ≡ or_empty_word (word_behind 0 bits)
inside_word end p inside low rs bits h =
    let y : ltb p (p + inside) ≡ true = lt-ltb p (p + inside) (omega arith) in
    let z : p - p ≡ 0 = omega arith in
    rw (y, z)

inside_spot : (end p inside low : ℕ) (rs : List Run) (k : ℕ) → 1 ≤ inside → p < k → spot_ahead end p inside low rs k ≡ option_map suc (spot_ahead end (p + 1) (inside - 1) low rs k)
inside_spot end p inside low rs k h l =
    let e : p + 1 + (inside - 1) ≡ p + inside = omega arith in
    by (ltb k (p + inside)) ∙ ap (λ (x : ℕ). option_map suc (cond (ltb k x) (Some (k - (p + 1))) (option_map (λ n. inside - 1 + n) (spot low end rs k)))) (sym e)
  where
    more : (o : Option ℕ) → option_map (λ n. inside + n) o ≡ option_map suc (option_map (λ n. inside - 1 + n) o)
    more None = refl
    more (Some n) = ap Some (omega arith)

    by : (t : Bool) → cond t (Some (k - p)) (option_map (λ n. inside + n) (spot low end rs k)) ≡ option_map suc (cond t (Some (k - (p + 1))) (option_map (λ n. inside - 1 + n) (spot low end rs k)))
    by true = ap Some (omega arith)
    by false = more (spot low end rs k)

pub inside_on : (end p inside low : ℕ) (rs : List Run) (bits rest : List Bool) (k : ℕ) → 1 ≤ inside → p < k → SameBehind bits rest → word_ahead end (p + 1) (inside - 1) low rs rest k ≡ word_ahead end p inside low rs bits k
inside_on end p inside low rs bits rest k h l s =
    sym (ap (λ (o : Option ℕ). or_empty_word (and_then o (λ n. word_behind n bits))) (inside_spot end p inside low rs k h l)
    ∙ ap or_empty_word (by (spot_ahead end (p + 1) (inside - 1) low rs k)))
  where
    by : (o : Option ℕ) → and_then (option_map suc o) (λ n. word_behind n bits) ≡ and_then o (λ n. word_behind n rest)
    by None = refl
    by (Some n) = s n

-- the words behind one that is cut off

abbrev Cut : Type 0
Cut = List Symbol × List Bool

one_cut : (bits : List Bool) (o : Option Cut) (n : ℕ) → cut 64 4 bits ≡ o → word_behind (suc n) bits ≡ and_then (and_then o (λ p. skips any_word n p.1)) (λ rest. and_then (cut 64 4 rest) (λ p. guard (lawful p.0) (Some p.0)))
one_cut bits o n e =
    ap (λ (x : Option Cut). and_then (and_then x (λ p. skips any_word n p.1)) (λ rest. and_then (cut 64 4 rest) (λ p. guard (lawful p.0) (Some p.0)))) e

pub behind_none : (bits : List Bool) → cut 64 4 bits ≡ None → SameBehind bits bits
behind_none bits e n = one_cut bits None n e ∙ sym (none n)
  where
    none : (n : ℕ) → word_behind n bits ≡ None
    none zero = ap (λ (x : Option Cut). and_then x (λ p. guard (lawful p.0) (Some p.0))) e
    none (suc n) = one_cut bits None n e

-- what is told of the present pixel

pub same_encoded : (v w : List Symbol) → encoded v ≡ encoded w → v ≡ w
same_encoded v w e = sym (decoded_encoded v) ∙ ap decoded e ∙ decoded_encoded w

-- the same words ahead, told by a place that was gone into
pub same_ahead : (end p i l from q j m from' : ℕ) (rs rs' : List Run) (all : List Bool) (k : ℕ) → from' ≡ from → spot_ahead end q j m rs' k ≡ spot_ahead end p i l rs k → word_ahead end q j m rs' (drop (3 * from') all) k ≡ word_ahead end p i l rs (drop (3 * from) all) k
same_ahead end p i l from q j m from' rs rs' all k f e =
    ap (λ (o : Option ℕ). or_empty_word (and_then o (λ n. word_behind n (drop (3 * from') all)))) e
    ∙ ap (λ (x : ℕ). or_empty_word (and_then (spot_ahead end p i l rs k) (λ n. word_behind n (drop (3 * x) all)))) f

-- the words to come, with the present one told apart
pub one_on : (ws : List (List Symbol)) (p q : ℕ) (w : List Symbol) → p < length ws → w ≡ get_or ws p [] → q ≡ p → drop p ws ≡ w ∷ drop (q + 1) ws
one_on ws p q w h e same =
    drop_more ws p [] h ∙ ap (λ (v : List Symbol). v ∷ drop (p + 1) ws) (sym e) ∙ ap (λ (i : ℕ). w ∷ drop (i + 1) ws) (sym same)
