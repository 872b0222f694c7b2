-- Bits put into bytes are packed.
--   bool_bit: the number of a truth value is its bit
--   eight: what holds of 0 to 7 holds of each number below 8
--   bit_fits: a byte with a bit put into it is a byte
--   first_is: the first bits of a byte, by division alone
--   put_at: bytes with bit j of byte q put
--   pushed: a bit put behind packed bits is packed with them
--   puts_join: bits put behind bits that were put
--   putting: symbols put behind n + i symbols
--   symbols_more, symbols_all: one turn of the loop that puts symbols, and its end
--   packs: bits put from the first place on are packed
use Rattle.std.proofs.Common.{◌≡◌, ℕ, zero, suc, ◌+◌, ◌*◌, ◌/◌, ◌%◌, ◌<◌, ◌≤◌, Bool, true, false, List, [], ◌∷◌, ◌++◌, length, get_or, drop, set, sym, refl, ap, ◌∙◌, append_assoc, arith, length-append}
use mir.Val.{bool_byte}
use Rattle.std.specs.List.{flat_map}
use Rattle.std.proofs.lemmas.List.{append-nil, at_drop_more, at_drop_all}
use Rattle.symbols.specs.declared.symbols.Symbol.{Symbol}
use Rattle.codec.specs.Bits.{bit, byte}
use Rattle.codec.specs.Words.{symbol_bits}
use Rattle.codec.proofs.Bits.{bit_lt}
use Rattle.recorder.specs.Packing.{weight, first_bits, with_bit, put_bit, put_bits, packed}

pub bool_bit : (b : Bool) → bool_byte b ≡ bit b
bool_bit true = refl
bool_bit false = refl

eight : (P : ℕ → Type 0) → P 0 → P 1 → P 2 → P 3 → P 4 → P 5 → P 6 → P 7 → (j : ℕ) → j < 8 → P j
eight P a b c d e f g h zero l = a
eight P a b c d e f g h (suc zero) l = b
eight P a b c d e f g h (suc (suc zero)) l = c
eight P a b c d e f g h (suc (suc (suc zero))) l = d
eight P a b c d e f g h (suc (suc (suc (suc zero)))) l = e
eight P a b c d e f g h (suc (suc (suc (suc (suc zero))))) l = f
eight P a b c d e f g h (suc (suc (suc (suc (suc (suc zero)))))) l = g
eight P a b c d e f g h (suc (suc (suc (suc (suc (suc (suc zero))))))) l = h
eight P a b c d e f g h (suc (suc (suc (suc (suc (suc (suc (suc j)))))))) l = absurd (omega arith)

pub bit_fits : (x j b : ℕ) → x < 256 → j < 8 → b < 2 → (x / weight j / 2 * 2 + b) * weight j < 256
bit_fits x j b h l m =
    eight (λ j. (x / weight j / 2 * 2 + b) * weight j < 256) (omega arith) (omega arith) (omega arith) (omega arith) (omega arith) (omega arith) (omega arith) (omega arith) j l

pub first_is : (x j : ℕ) → x < 256 → j < 8 → x / weight j / 2 ≡ first_bits x j
first_is x j h l =
    eight (λ j. x / weight j / 2 ≡ first_bits x j) (omega arith) (omega arith) (omega arith) (omega arith) (omega arith) (omega arith) (omega arith) (omega arith) j l

abbrev pub put_at : List ℕ → ℕ → ℕ → Bool → List ℕ
put_at bs q j b = set bs q (with_bit (get_or bs q 0) j b)

pub pushed : (ns : List Bool) (old : List ℕ) (b : Bool) → length ns < 8 * length old → put_bit (packed ns old) (length ns) b ≡ packed (ns ++ (b ∷ [])) old
pushed [] [] b l = absurd (omega arith)
pushed [] (o ∷ old) b l = ap (λ x. x ∷ old) (omega arith)
pushed (a ∷ []) old b l = ap (λ x. x ∷ drop 1 old) (omega (arith, bit_lt a, bit_lt b))
pushed (a ∷ c ∷ []) old b l = ap (λ x. x ∷ drop 1 old) (omega (arith, bit_lt a, bit_lt b, bit_lt c))
pushed (a ∷ c ∷ d ∷ []) old b l = ap (λ x. x ∷ drop 1 old) (omega (arith, bit_lt a, bit_lt b, bit_lt c, bit_lt d))
pushed (a ∷ c ∷ d ∷ e ∷ []) old b l = ap (λ x. x ∷ drop 1 old) (omega (arith, bit_lt a, bit_lt b, bit_lt c, bit_lt d, bit_lt e))
pushed (a ∷ c ∷ d ∷ e ∷ f ∷ []) old b l = ap (λ x. x ∷ drop 1 old) (omega (arith, bit_lt a, bit_lt b, bit_lt c, bit_lt d, bit_lt e, bit_lt f))
pushed (a ∷ c ∷ d ∷ e ∷ f ∷ g ∷ []) old b l = ap (λ x. x ∷ drop 1 old) (omega (arith, bit_lt a, bit_lt b, bit_lt c, bit_lt d, bit_lt e, bit_lt f, bit_lt g))
pushed (a ∷ c ∷ d ∷ e ∷ f ∷ g ∷ h ∷ []) old b l = ap (λ x. x ∷ drop 1 old) (omega (arith, bit_lt a, bit_lt b, bit_lt c, bit_lt d, bit_lt e, bit_lt f, bit_lt g, bit_lt h))
pushed (a ∷ c ∷ d ∷ e ∷ f ∷ g ∷ h ∷ i ∷ ns) [] b l = absurd (omega arith)
pushed (a ∷ c ∷ d ∷ e ∷ f ∷ g ∷ h ∷ i ∷ ns) (o ∷ old) b l =
    let k = length ns in
    let x = byte a c d e f g h i in
    let q : suc (suc (suc (suc (suc (suc (suc (suc k))))))) / 8 ≡ suc (k / 8) = omega arith in
    let m : suc (suc (suc (suc (suc (suc (suc (suc k))))))) % 8 ≡ k % 8 = omega arith in
    let r = pushed ns old b (omega arith) in
    ap (λ (y : ℕ). put_at (x ∷ packed ns old) y (suc (suc (suc (suc (suc (suc (suc (suc k))))))) % 8) b) q
    ∙ ap (λ (y : ℕ). x ∷ put_at (packed ns old) (k / 8) y b) m
    ∙ ap (λ (y : List ℕ). x ∷ y) r

pub puts_join : (ms ns : List Bool) (bs : List ℕ) (k : ℕ) → put_bits bs k (ms ++ ns) ≡ put_bits (put_bits bs k ms) (k + length ms) ns
puts_join [] ns bs k = ap (λ (x : ℕ). put_bits bs x ns) (omega arith)
puts_join (b ∷ ms) ns bs k =
    let e : k + 1 + length ms ≡ k + length (b ∷ ms) = omega arith in
    puts_join ms ns (put_bit bs k b) (k + 1) ∙ ap (λ (x : ℕ). put_bits (put_bits (put_bit bs k b) (k + 1) ms) x ns) e

abbrev pub putting : List ℕ → ℕ → ℕ → List Symbol → List ℕ
putting bs n i w = put_bits bs (3 * (n + i)) (flat_map symbol_bits w)

pub symbols_more : (w : List Symbol) (bs now : List ℕ) (n i : ℕ) (d : Symbol) → i < length w → now ≡ put_bits bs (3 * (n + i)) (symbol_bits (get_or w i d)) → putting now n (i + 1) (drop (i + 1) w) ≡ putting bs n i (drop i w)
symbols_more w bs now n i d h e =
    let rest = flat_map symbol_bits (drop (i + 1) w) in
    let k : 3 * (n + i) + 3 ≡ 3 * (n + (i + 1)) = omega arith in
    ap (λ (x : List ℕ). putting x n (i + 1) (drop (i + 1) w)) e
    ∙ sym (at_drop_more (putting bs n i) w i d h
    ∙ puts_join (symbol_bits (get_or w i d)) rest bs (3 * (n + i))
    ∙ ap (λ (x : ℕ). put_bits (put_bits bs (3 * (n + i)) (symbol_bits (get_or w i d))) x rest) k)

pub symbols_all : (w : List Symbol) (bs : List ℕ) (n i : ℕ) → length w ≤ i → putting bs n i (drop i w) ≡ bs
symbols_all w bs n i h = at_drop_all (putting bs n i) w i h

packs_on : (ms ns : List Bool) (old : List ℕ) → length ns + length ms ≤ 8 * length old → put_bits (packed ns old) (length ns) ms ≡ packed (ns ++ ms) old
packs_on [] ns old l = ap (λ (x : List Bool). packed x old) (sym (append-nil ns))
packs_on (b ∷ ms) ns old l =
    let n : length ns + 1 ≡ length (ns ++ (b ∷ [])) = sym (length-append ns (b ∷ [])) in
    ap (λ (x : List ℕ). put_bits x (length ns + 1) ms) (pushed ns old b (omega arith))
    ∙ ap (λ (x : ℕ). put_bits (packed (ns ++ (b ∷ [])) old) x ms) n
    ∙ packs_on ms (ns ++ (b ∷ [])) old (omega arith)
    ∙ ap (λ (x : List Bool). packed x old) (append_assoc ns (b ∷ []) ms)

pub packs : (ms : List Bool) (old : List ℕ) → length ms ≤ 8 * length old → put_bits old 0 ms ≡ packed ms old
packs ms old l = packs_on ms [] old (omega arith)
