-- The word at the front of bytes, a byte at a time.
--   decode_other: only the byte 0 is a corner
--   up_to_short, up_to_take: what is up to a corner is a front
--   Counted, count_more, count_all: one turn of the loop that counts corners, and its end
--   put_more: one turn of a loop that writes to the front of memory
--   decode_code, decoded_encoded: the symbol of a code, and the symbols of the bytes of a word
--   Fills, fills_short, fills_well: memory that an answer fills, or is too long for
--   blank_front: memory whose front was made zeros
--   front_encoded: the word at the front of a lawful word's bytes is that word, whatever follows
use Rattle.std.proofs.Common.{inl, inr, ◌≡◌, ℕ, zero, suc, ◌+◌, ◌-◌, ◌<◌, ◌≤◌, Bool, true, false, ◌≢◌, List, [], ◌∷◌, ◌++◌, length, get_or, take, drop, set, replicate, Ok, Err, Result, sym, refl, ap, ◌∙◌, subst, arith}
use lib.ListN.{length-replicate}
use Rattle.std.proofs.lemmas.List.{at_drop_more, at_drop_all, append_assoc, map-append, drop_more, set_at, length-take-le, take_more}
use Rattle.std.proofs.lemmas.Bool.{cases_eq, ne_eqb, lt-ltb, le-ltb}
use mir.Val.{bool_byte}
use lib.Dec.{eqb}
use Rattle.symbols.specs.declared.refusals.Refusal.{Refusal}
use Rattle.symbols.specs.declared.refusals.Refusal.TheVariants.{Short}
use Rattle.symbols.specs.Refusals.{fill_answer, filled}
use Rattle.symbols.specs.declared.symbols.Symbol.{Symbol}
use Rattle.symbols.specs.declared.symbols.Symbol.TheVariants.{Corner, DeadEnd, SplitOpen, SplitClose, JunctionOpen, Branch, JunctionClose}
use Rattle.symbols.specs.Symbols.{code}
use Rattle.rules.specs.Words.{is_corner, Lawful}
use Rattle.rules.proofs.Words.{parts}
use Rattle.codec.specs.Words.{left}
use Rattle.codec.specs.Loops.{up_to}
use Rattle.codec.proofs.Words.{lawful_ends}
use Rattle.codec.proofs.Loops.{up_to_word}
use Rattle.stores.specs.Bytes.{decode, decoded, front_word, encoded}

decode_other : (b : ℕ) → b ≢ 0 → is_corner (decode b) ≡ false
decode_other zero h = absurd (h refl)
decode_other (suc zero) h = refl
decode_other (suc (suc zero)) h = refl
decode_other (suc (suc (suc zero))) h = refl
decode_other (suc (suc (suc (suc zero)))) h = refl
decode_other (suc (suc (suc (suc (suc zero))))) h = refl
decode_other (suc (suc (suc (suc (suc (suc zero)))))) h = refl
decode_other (suc (suc (suc (suc (suc (suc (suc b))))))) h =
    let n : ℕ = 7 + b in
    let q : suc (suc (suc (suc (suc (suc (suc b)))))) ≡ n = omega arith in
    subst (λ (x : ℕ). is_corner (decode x) ≡ false) (sym q)
    (rw (ne_eqb n 0 (omega arith), ne_eqb n 1 (omega arith), ne_eqb n 2 (omega arith), ne_eqb n 3 (omega arith), ne_eqb n 4 (omega arith), ne_eqb n 5 (omega arith), ne_eqb n 6 (omega arith)))

pub up_to_short : (z : ℕ) (v : List Symbol) → length (up_to z v) ≤ length v
up_to_short zero v = omega arith
up_to_short (suc z) [] = omega arith
up_to_short (suc z) (s ∷ v) = omega (arith, up_to_short (left s z) v)

pub up_to_take : (z : ℕ) (v : List Symbol) → up_to z v ≡ take (length (up_to z v)) v
up_to_take zero v = refl
up_to_take (suc z) [] = refl
up_to_take (suc z) (s ∷ v) = ap (λ (x : List Symbol). s ∷ x) (up_to_take (left s z) v)

-- how many bytes the word has, with z corners to come
abbrev pub ahead : ℕ → List ℕ → ℕ
ahead z bs = length (up_to z (decoded bs))

ahead_corner : (z b : ℕ) (bs : List ℕ) → b ≡ 0 → ahead (suc z) (b ∷ bs) ≡ suc (ahead z bs)
ahead_corner z b bs e = ap (λ (x : ℕ). suc (length (up_to (left (decode x) z) (decoded bs)))) e

ahead_other : (z b : ℕ) (bs : List ℕ) → b ≢ 0 → ahead (suc z) (b ∷ bs) ≡ suc (ahead (suc z) bs)
ahead_other z b bs e =
    let r : left (decode b) z ≡ suc z = other (decode b) z (decode_other b e) in
    ap (λ (x : ℕ). suc (length (up_to x (decoded bs)))) r
  where
    other : (s : Symbol) (z : ℕ) → is_corner s ≡ false → left s z ≡ suc z
    other s z e = rw e

ahead_none : (z : ℕ) → ahead z [] ≡ 0
ahead_none zero = refl
ahead_none (suc z) = refl

-- one byte more, with z + 1 corners to come
ahead_front : (bs : List ℕ) (i z : ℕ) → i < length bs → ahead (suc z) (drop i bs) ≡ suc (ahead (suc z - bool_byte (eqb (get_or bs i 0) 0)) (drop (i + 1) bs))
ahead_front bs i z h =
    let b : ℕ = get_or bs i 0 in
    let rest = drop (i + 1) bs in
    let cut : ahead (suc z) (drop i bs) ≡ ahead (suc z) (b ∷ rest) = at_drop_more (ahead (suc z)) bs i 0 h in
    elim (cases_eq b 0) [
      | inl e ↦
          let t : suc z - bool_byte (eqb b 0) ≡ z = rw e (omega arith) in
          rw t (cut ∙ ahead_corner z b rest e)
      | inr n ↦
          let t : suc z - bool_byte (eqb b 0) ≡ suc z = rw (ne_eqb b 0 n) (omega arith) in
          rw t (cut ∙ ahead_other z b rest n)
    ]

-- after i bytes, with k corners among them
abbrev pub Counted : List ℕ → ℕ → ℕ → Type 0
Counted bs i k = (i + ahead (4 - k) (drop i bs) ≡ ahead 4 bs) × (k < 4)

few_bits : (t : Bool) → bool_byte t ≤ 1
few_bits true = omega arith
few_bits false = omega arith

pub count_more : (bs : List ℕ) (i k m : ℕ) → i < length bs → m ≡ bool_byte (eqb (get_or bs i 0) 0) → Counted bs i k → (i + 1 + ahead (4 - (k + m)) (drop (i + 1) bs) ≡ ahead 4 bs) × (k + m ≤ 4)
count_more bs i k m h c v =
    let few : m ≤ 1 = omega (arith, few_bits (eqb (get_or bs i 0) 0)) in
    let z : 4 - k ≡ suc (3 - k) = omega (arith, v.1) in
    let e : ahead (4 - k) (drop i bs) ≡ suc (ahead (suc (3 - k) - m) (drop (i + 1) bs)) = rw (z, c) (ahead_front bs i (3 - k) h) in
    let q : 4 - (k + m) ≡ suc (3 - k) - m = omega (arith, v.1) in
    (rw q (omega (arith, e, v.0)), omega (arith, v.1))

pub count_all : (bs : List ℕ) (i k : ℕ) → length bs ≤ i → Counted bs i k → i ≡ ahead 4 bs
count_all bs i k h v = (let e : ahead (4 - k) (drop i bs) ≡ 0 = at_drop_all (ahead (4 - k)) bs i h ∙ ahead_none (4 - k) in omega (arith, v.0))

-- writing to the front of memory

pub put_more : {A : Type 0} (xs old now : List A) (d : A) (i : ℕ) (x : A) → i < length xs → i < length old → x ≡ get_or xs i d → now ≡ take i xs ++ drop i old → set now i x ≡ take (i + 1) xs ++ drop (i + 1) old
put_more xs old now d i x h l e v =
    let n : length (take i xs) ≡ i = length-take-le i xs (omega arith) in
    ap (λ (y : List _). set y i x) (v ∙ ap (λ (y : List _). take i xs ++ y) (drop_more old i d l))
    ∙ set_at (take i xs) (get_or old i d) (drop (i + 1) old) x i n
    ∙ ap (λ y. take i xs ++ (y ∷ drop (i + 1) old)) e
    ∙ sym (append_assoc (take i xs) (get_or xs i d ∷ []) (drop (i + 1) old))
    ∙ ap (λ (y : List _). y ++ drop (i + 1) old) (sym (take_more xs i d h))

-- codes

pub decode_code : (s : Symbol) → decode (code s) ≡ s
decode_code Corner = refl
decode_code DeadEnd = refl
decode_code SplitOpen = refl
decode_code SplitClose = refl
decode_code JunctionOpen = refl
decode_code Branch = refl
decode_code JunctionClose = refl

pub decoded_encoded : (w : List Symbol) → decoded (encoded w) ≡ w
decoded_encoded [] = refl
decoded_encoded (s ∷ w) = λ i. decode_code s i ∷ decoded_encoded w i

pub front_encoded : (w : List Symbol) (bs : List ℕ) → Lawful w → front_word (encoded w ++ bs) ≡ w
front_encoded w bs l =
    ap (up_to 4) (map-append decode (encoded w) bs ∙ ap (λ (x : List Symbol). x ++ decoded bs) (decoded_encoded w))
    ∙ up_to_word w 4 (decoded bs) (lawful_ends w l) (sym (parts w l).four)

-- filling memory

pub record Fills {A : Type 0} (answer memory now : List A) (r : Result ℕ Refusal) : Type 0 where
  pub told : r ≡ fill_answer answer memory
  pub holds : now ≡ filled answer memory

pub fills_short : {A : Type 0} (answer memory : List A) → length memory < length answer → Fills answer memory memory (Err Short)
fills_short answer memory h = (let e = lt-ltb (length memory) (length answer) h in record { told = rw e; holds = rw e })

pub fills_well : {A : Type 0} (answer memory now : List A) (n : ℕ) → n ≡ length answer → n ≤ length memory → now ≡ answer ++ drop n memory → Fills answer memory now (Ok n)
fills_well answer memory now n q h v =
    let e = le-ltb (length memory) (length answer) (omega arith) in
    record { told = rw e (ap Ok q); holds = rw e (v ∙ ap (λ (x : ℕ). answer ++ drop x memory) q) }

pub blank_front : (n : ℕ) (memory : List ℕ) → n ≤ length memory → filled (replicate n 0) memory ≡ replicate n 0 ++ drop n memory
blank_front n memory h =
    let l : length (replicate {A = ℕ} n 0) ≡ n = length-replicate n 0 in
    sym (fills_well (replicate n 0) memory (replicate n 0 ++ drop n memory) n (sym l) h refl).holds
