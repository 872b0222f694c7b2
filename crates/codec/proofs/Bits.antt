-- Bytes and their bits come back from each other.
--   bit_lt, half_push, odd_push, bit_odd, push_half: numbers bit by bit
--   bits_byte, byte_bits, byte_lt: a byte and its eight bits
--   bits_of_pack: the bits of what is packed: these bits, and fewer than eight zero bits
--   pack_bits_of: bytes are packed from their bits
--   pack_under: what is packed has bytes
--   bits_of_length: bytes have eight bits each
--   pack_back: bytes whose bits are bs and fewer than eight zero bits are what bs packs to
--   unset_bits, padding_parts, unset_replicate, padding_replicate: padding is fewer than eight zero bits
use Rattle.std.proofs.Common.{◌≡◌, ℕ, zero, suc, ◌+◌, ◌*◌, ◌/◌, ◌%◌, ◌<◌, Bool, true, false, eqb, ltb, List, [], ◌∷◌, ◌++◌, length, replicate, sym, refl, ap, ◌∙◌, arith, lit<, length-append}
use lib.ListN.{length-replicate}
use Rattle.std.proofs.lemmas.Bool.{false≢true, eqb-true, eqb-false, ltb-true, lt-ltb, and_parts}
use Rattle.std.proofs.lemmas.Nat.{div-mul-add, mod-mul-add, div-add-mod'}
use Rattle.codec.specs.Bits.{Bytes, bit, push, odd, byte, bits8, bits_of, pack, unset, padding}

pub bit_lt : (b : Bool) → bit b < 2
bit_lt true = lit< tt
bit_lt false = lit< tt

odd_bit : (b : Bool) → odd (bit b) ≡ b
odd_bit true = refl
odd_bit false = refl

pub half_push : (n : ℕ) (b : Bool) → push n b / 2 ≡ n
half_push n b = div-mul-add n 2 (bit b) (bit_lt b)

pub odd_push : (n : ℕ) (b : Bool) → odd (push n b) ≡ b
odd_push n b = ap (λ k. eqb k 1) (mod-mul-add n 2 (bit b) (bit_lt b)) ∙ lone b
  where
    lone : (b : Bool) → eqb (bit b) 1 ≡ b
    lone true = refl
    lone false = refl

pub bit_odd : (n : ℕ) → bit (odd n) ≡ n % 2
bit_odd n = by (odd n) refl
  where
    by : (t : Bool) → odd n ≡ t → bit t ≡ n % 2
    by true e = sym (eqb-true (n % 2) 1 e)
    by false e = let ne : n % 2 ≡ 1 → ⊥ = eqb-false (n % 2) 1 e in omega arith

pub push_half : (n : ℕ) → push (n / 2) (odd n) ≡ n
push_half n = ap (λ k. n / 2 * 2 + k) (bit_odd n) ∙ div-add-mod' n 2

bit_top : (n : ℕ) → n < 2 → bit (odd n) ≡ n
bit_top n h = bit_odd n ∙ omega arith

pub bits_byte : (n : ℕ) → n < 256 → byte (odd (n / 2 / 2 / 2 / 2 / 2 / 2 / 2)) (odd (n / 2 / 2 / 2 / 2 / 2 / 2)) (odd (n / 2 / 2 / 2 / 2 / 2)) (odd (n / 2 / 2 / 2 / 2)) (odd (n / 2 / 2 / 2)) (odd (n / 2 / 2)) (odd (n / 2)) (odd n) ≡ n
bits_byte n h =
    let top : n / 2 / 2 / 2 / 2 / 2 / 2 / 2 < 2 = omega arith in
    rw (bit_top (n / 2 / 2 / 2 / 2 / 2 / 2 / 2) top, push_half (n / 2 / 2 / 2 / 2 / 2 / 2), push_half (n / 2 / 2 / 2 / 2 / 2), push_half (n / 2 / 2 / 2 / 2), push_half (n / 2 / 2 / 2), push_half (n / 2 / 2), push_half (n / 2), push_half n)

pub byte_bits : (a b c d e f g h : Bool) → bits8 (byte a b c d e f g h) ≡ a ∷ b ∷ c ∷ d ∷ e ∷ f ∷ g ∷ h ∷ []
byte_bits a b c d e f g h = simp (half_push, odd_push, odd_bit)

pub byte_lt : (a b c d e f g h : Bool) → byte a b c d e f g h < 256
byte_lt a b c d e f g h = omega (arith, bit_lt a, bit_lt b, bit_lt c, bit_lt d, bit_lt e, bit_lt f, bit_lt g, bit_lt h)

pub bits_of_pack : (bs : List Bool) → (k : ℕ) × (k < 8) × (bits_of (pack bs) ≡ bs ++ replicate k false)
bits_of_pack [] = (0, lit< tt, refl)
bits_of_pack (a ∷ []) = (7, lit< tt, byte_bits a false false false false false false false)
bits_of_pack (a ∷ b ∷ []) = (6, lit< tt, byte_bits a b false false false false false false)
bits_of_pack (a ∷ b ∷ c ∷ []) = (5, lit< tt, byte_bits a b c false false false false false)
bits_of_pack (a ∷ b ∷ c ∷ d ∷ []) = (4, lit< tt, byte_bits a b c d false false false false)
bits_of_pack (a ∷ b ∷ c ∷ d ∷ e ∷ []) = (3, lit< tt, byte_bits a b c d e false false false)
bits_of_pack (a ∷ b ∷ c ∷ d ∷ e ∷ f ∷ []) = (2, lit< tt, byte_bits a b c d e f false false)
bits_of_pack (a ∷ b ∷ c ∷ d ∷ e ∷ f ∷ g ∷ []) = (1, lit< tt, byte_bits a b c d e f g false)
bits_of_pack (a ∷ b ∷ c ∷ d ∷ e ∷ f ∷ g ∷ h ∷ bs) =
    let r = bits_of_pack bs in
    (r.0, r.1, ap (λ l. l ++ bits_of (pack bs)) (byte_bits a b c d e f g h) ∙ ap (λ l. a ∷ b ∷ c ∷ d ∷ e ∷ f ∷ g ∷ h ∷ l) r.2)

pub pack_bits_of : (ns : List ℕ) → Bytes ns → pack (bits_of ns) ≡ ns
pack_bits_of [] h = refl
pack_bits_of (n ∷ ns) h = let p = bits_byte n h.0 in let q = pack_bits_of ns h.1 in cc

pub pack_under : (bs : List Bool) → Bytes (pack bs)
pack_under [] = tt
pack_under (a ∷ []) = (byte_lt a false false false false false false false, tt)
pack_under (a ∷ b ∷ []) = (byte_lt a b false false false false false false, tt)
pack_under (a ∷ b ∷ c ∷ []) = (byte_lt a b c false false false false false, tt)
pack_under (a ∷ b ∷ c ∷ d ∷ []) = (byte_lt a b c d false false false false, tt)
pack_under (a ∷ b ∷ c ∷ d ∷ e ∷ []) = (byte_lt a b c d e false false false, tt)
pack_under (a ∷ b ∷ c ∷ d ∷ e ∷ f ∷ []) = (byte_lt a b c d e f false false, tt)
pack_under (a ∷ b ∷ c ∷ d ∷ e ∷ f ∷ g ∷ []) = (byte_lt a b c d e f g false, tt)
pack_under (a ∷ b ∷ c ∷ d ∷ e ∷ f ∷ g ∷ h ∷ bs) = (byte_lt a b c d e f g h, pack_under bs)

pub bits_of_length : (ns : List ℕ) → length (bits_of ns) ≡ 8 * length ns
bits_of_length [] = refl
bits_of_length (n ∷ ns) = let q = bits_of_length ns in omega arith

pub pack_back : (bs : List Bool) (k : ℕ) (ns : List ℕ) → k < 8 → Bytes ns → bits_of ns ≡ bs ++ replicate k false → pack bs ≡ ns
pack_back bs k ns h u e =
    sym (pack_bits_of (pack bs) (pack_under bs)) ∙ ap pack (r.2 ∙ ap (λ j. bs ++ replicate j false) (sym same) ∙ sym e) ∙ pack_bits_of ns u
  where
    r : (j : ℕ) × (j < 8) × (bits_of (pack bs) ≡ bs ++ replicate j false)
    r = bits_of_pack bs

    long : (j : ℕ) (ms : List ℕ) → bits_of ms ≡ bs ++ replicate j false → 8 * length ms ≡ length bs + j
    long j ms q = sym (bits_of_length ms) ∙ ap length q ∙ length-append bs (replicate j false) ∙ ap (λ m. length bs + m) (length-replicate j false)

    same : k ≡ r.0
    same = let p = long k ns e in let q = long r.0 (pack bs) r.2 in let m = r.1 in omega arith

pub unset_bits : (bs : List Bool) → unset bs ≡ true → bs ≡ replicate (length bs) false
unset_bits [] e = refl
unset_bits (true ∷ bs) e = absurd (false≢true e)
unset_bits (false ∷ bs) e = ap (λ l. false ∷ l) (unset_bits bs e)

pub padding_parts : (bs : List Bool) → padding bs ≡ true → (length bs < 8) × (bs ≡ replicate (length bs) false)
padding_parts bs e =
    let p = and_parts (ltb (length bs) 8) (unset bs) e in
    (ltb-true (length bs) 8 p.0, unset_bits bs p.1)

pub unset_replicate : (k : ℕ) → unset (replicate k false) ≡ true
unset_replicate zero = refl
unset_replicate (suc k) = unset_replicate k

pub padding_replicate : (k : ℕ) → k < 8 → padding (replicate k false) ≡ true
padding_replicate k h =
    let l : ltb (length (replicate k false)) 8 ≡ true = rw (length-replicate k false) (lt-ltb k 8 h) in
    rw (l, unset_replicate k)
