-- Symbols of three bits, at their index.
--   bits_part: the bits of a part of bytes that begins in their middle
--   bits_there: the bits from an index on stand in the part that begins with its row of three bytes
--   next_short: fewer than three bits have no symbol
--   next_code: three bits have the symbol of their code
--   next_drop: behind a symbol come the bits behind its three
--   symbol_next: where there is a symbol at an index, the bits from there on begin with it
--   unset_on, unset-bit: one turn of the loop over padding, and its end
use Rattle.std.specs.List.{range_with_len, AllWithin, HoldsAt}
use Rattle.std.specs.Bool.{MatchBool}
use Rattle.std.proofs.lemmas.List.{get_or-drop}
use Rattle.std.proofs.lemmas.List.FromFn.{length-range_with_len, get_or-range_with_len}
use Rattle.std.proofs.Common.{◌≡◌, ℕ, zero, suc, ◌+◌, ◌*◌, ◌/◌, ◌%◌, ◌<◌, ◌≤◌, Bool, true, false, ltb, List, [], ◌∷◌, length, get_or, drop, Some, None, Option, sym, refl, ap, ◌∙◌, arith, length-drop, ◌-◌, leb, ◌&&◌, inl, inr}
use Rattle.std.specs.Option.{option_map}
use Rattle.std.proofs.lemmas.List.{drop-drop, drop_more}
use Rattle.std.proofs.lemmas.Bool.{cases_lt, lt-leb, le-leb, lt-ltb, le-ltb, and_left}
use Rattle.symbols.specs.declared.symbols.Symbol.{Symbol}
use Rattle.symbols.specs.Symbols.{coded}
use Rattle.codec.specs.Reading.{and_then}
use Rattle.codec.specs.Bits.{bit, bits_of, triple, unset, padding}
use Rattle.codec.specs.Words.{next_symbol}
use Rattle.codec.proofs.Reading.{none_some, some_inj}
use Rattle.codec.proofs.Bits.{bits_of_length}
use Rattle.records.specs.Packed.{symbol_at}

pub bits_part : (n : ℕ) (bs : List ℕ) → drop (8 * n) (bits_of bs) ≡ bits_of (drop n bs)
bits_part zero bs = refl
bits_part (suc n) [] = none (8 * suc n)
  where
    none : (k : ℕ) → drop {A = Bool} k [] ≡ []
    none zero = refl
    none (suc k) = refl
bits_part (suc n) (b ∷ bs) =
    let e : 8 * suc n ≡ suc (suc (suc (suc (suc (suc (suc (suc (8 * n)))))))) = omega arith in
    ap (λ (k : ℕ). drop k (bits_of (b ∷ bs))) e ∙ bits_part n bs

pub bits_there : (bs : List ℕ) (k : ℕ) → drop (3 * k) (bits_of bs) ≡ drop (3 * (k % 8)) (bits_of (drop (3 * (k / 8)) bs))
bits_there bs k =
    let e : 3 * k ≡ 8 * (3 * (k / 8)) + 3 * (k % 8) = omega arith in
    ap (λ (n : ℕ). drop n (bits_of bs)) e
    ∙ sym (drop-drop (3 * (k % 8)) (8 * (3 * (k / 8))) (bits_of bs))
    ∙ ap (drop (3 * (k % 8))) (bits_part (3 * (k / 8)) bs)

pub next_short : (xs : List Bool) → length xs < 3 → next_symbol xs ≡ None
next_short [] h = refl
next_short (a ∷ []) h = refl
next_short (a ∷ b ∷ []) h = refl
next_short (a ∷ b ∷ c ∷ xs) h = absurd (omega arith)

-- the symbol at the front of bits
abbrev front : List Bool → Option Symbol
front xs = option_map (λ (p : Symbol × List Bool). p.0) (next_symbol xs)

pub none_there : (bs : List ℕ) (k : ℕ) → 8 * length (drop (3 * (k / 8)) bs) ≤ 3 * (k % 8) + 2 → symbol_at bs k ≡ None
none_there bs k h =
    let part = drop (3 * (k / 8)) bs in
    let n : length (drop (3 * (k % 8)) (bits_of part)) < 3 = omega (arith, length-drop (3 * (k % 8)) (bits_of part), bits_of_length part) in
    ap front (bits_there bs k) ∙ ap (option_map (λ (p : Symbol × List Bool). p.0)) (next_short (drop (3 * (k % 8)) (bits_of part)) n)

pub next_code : (xs : List Bool) (n : ℕ) → n + 2 < length xs → front (drop n xs) ≡ coded (bit (get_or xs n false) * 4 + bit (get_or xs (n + 1) false) * 2 + bit (get_or xs (n + 2) false))
next_code xs n h =
    let a = get_or xs n false in
    let b = get_or xs (n + 1) false in
    let c = get_or xs (n + 2) false in
    let one : n + 1 + 1 ≡ n + 2 = omega arith in
    let cut : drop n xs ≡ a ∷ b ∷ c ∷ drop (n + 2 + 1) xs =
    drop_more xs n false (omega arith)
    ∙ ap (λ (l : List Bool). a ∷ l) (drop_more xs (n + 1) false (omega arith)
    ∙ ap (λ (l : List Bool). b ∷ l) (ap (λ (m : ℕ). drop m xs) one ∙ drop_more xs (n + 2) false h)) in
    let t : triple a b c ≡ bit a * 4 + bit b * 2 + bit c = omega arith in
    ap front cut ∙ kept (coded (triple a b c)) (drop (n + 2 + 1) xs) ∙ ap coded t
  where
    kept : (o : Option Symbol) (rest : List Bool) → option_map (λ (p : Symbol × List Bool). p.0) (and_then {B = Symbol × List Bool} o (λ s. Some (s, rest))) ≡ o
    kept None rest = refl
    kept (Some s) rest = refl

pub code_there : (bs part : List ℕ) (k : ℕ) → part ≡ drop (3 * (k / 8)) bs → 3 * (k % 8) + 2 < 8 * length part → symbol_at bs k ≡ coded (bit (get_or (bits_of part) (3 * (k % 8)) false) * 4 + bit (get_or (bits_of part) (3 * (k % 8) + 1) false) * 2 + bit (get_or (bits_of part) (3 * (k % 8) + 2) false))
code_there bs part k e h =
    ap front (bits_there bs k ∙ ap (λ (l : List ℕ). drop (3 * (k % 8)) (bits_of l)) (sym e))
    ∙ next_code (bits_of part) (3 * (k % 8)) (omega (arith, bits_of_length part))

next_drop : (xs rest : List Bool) (s : Symbol) → next_symbol xs ≡ Some (s, rest) → rest ≡ drop 3 xs
next_drop [] rest s e = absurd (none_some e)
next_drop (a ∷ []) rest s e = absurd (none_some e)
next_drop (a ∷ b ∷ []) rest s e = absurd (none_some e)
next_drop (a ∷ b ∷ c ∷ xs) rest s e = by (coded (triple a b c)) e
  where
    by : (o : Option Symbol) → and_then {B = Symbol × List Bool} o (λ t. Some (t, xs)) ≡ Some (s, rest) → rest ≡ xs
    by None e = absurd (none_some e)
    by (Some t) e = sym (ap (λ (p : Symbol × List Bool). p.1) (some_inj e))

pub symbol_next : (bs : List ℕ) (k : ℕ) (s : Symbol) → symbol_at bs k ≡ Some s → next_symbol (drop (3 * k) (bits_of bs)) ≡ Some (s, drop (3 * (k + 1)) (bits_of bs))
symbol_next bs k s e = by (next_symbol (drop (3 * k) (bits_of bs))) refl e
  where
    by : (o : Option (Symbol × List Bool)) → next_symbol (drop (3 * k) (bits_of bs)) ≡ o → option_map (λ (p : Symbol × List Bool). p.0) o ≡ Some s → o ≡ Some (s, drop (3 * (k + 1)) (bits_of bs))
    by None q e = absurd (none_some e)
    by (Some p) q e =
        let n : 3 * k + 3 ≡ 3 * (k + 1) = omega arith in
        let r : p.1 ≡ drop (3 * (k + 1)) (bits_of bs) =
        next_drop (drop (3 * k) (bits_of bs)) p.1 p.0 q ∙ drop-drop 3 (3 * k) (bits_of bs) ∙ ap (λ (m : ℕ). drop m (bits_of bs)) n in
        λ i. Some (some_inj e i, r i)

pub symbol_none : (bs : List ℕ) (k : ℕ) → symbol_at bs k ≡ None → next_symbol (drop (3 * k) (bits_of bs)) ≡ None
symbol_none bs k e = by (next_symbol (drop (3 * k) (bits_of bs))) e
  where
    by : (o : Option (Symbol × List Bool)) → option_map (λ (p : Symbol × List Bool). p.0) o ≡ None → o ≡ None
    by None e = refl
    by (Some p) e = absurd (none_some (sym e))

pub unset_on : (b : Bool) (xs : List Bool) → bit b ≡ 0 → unset (b ∷ xs) ≡ unset xs
unset_on true xs e = absurd (omega arith)
unset_on false xs e = refl

pub unset_set : (b : Bool) (xs : List Bool) → (bit b ≡ 0 → ⊥) → unset (b ∷ xs) ≡ false
unset_set true xs e = refl
unset_set false xs e = absurd (e refl)

-- padding is fewer than eight bits, none of them set
unset_all : (xs : List Bool) → ((k : ℕ) → k < length xs → bit (get_or xs k false) ≡ 0) → unset xs ≡ true
unset_all [] f = refl
unset_all (b ∷ xs) f = unset_on b xs (f 0 (omega arith)) ∙ unset_all xs (λ k h. f (suc k) (omega arith))

unset_one : (xs : List Bool) (k : ℕ) → k < length xs → (bit (get_or xs k false) ≡ 0 → ⊥) → unset xs ≡ false
unset_one [] k h n = absurd (omega arith)
unset_one (b ∷ xs) zero h n = unset_set b xs n
unset_one (true ∷ xs) (suc k) h n = refl
unset_one (false ∷ xs) (suc k) h n = unset_one xs k (omega arith) n

-- places from i on, each of which is unset, or one of which is set
pub unset_within : (bits : List Bool) (i : ℕ) (r : Bool) → let ps = range_with_len i (length bits - i) in
    MatchBool r (AllWithin (λ p. bit (get_or bits p false) ≡ 0) ps 0 (length ps)) ((k : ℕ) × (k < length ps) × HoldsAt (λ p. bit (get_or bits p false) ≡ 0 → ⊥) ps k)
    → r ≡ unset (drop i bits)
unset_within bits i true f =
    sym (unset_all (drop i bits) (λ k h.
    let n = length-range_with_len i (length bits - i) in
    let l : k < length bits - i = omega (arith, length-drop i bits) in
    let e : get_or (range_with_len i (length bits - i)) k 0 ≡ i + k = get_or-range_with_len i (length bits - i) k 0 l in
    ap (λ (b : Bool). bit b) (get_or-drop i bits k false ∙ ap (λ (p : ℕ). get_or bits p false) (sym e)) ∙ f k 0 (omega arith) (omega arith)))
unset_within bits i false f =
    let k = f.0 in
    let n = length-range_with_len i (length bits - i) in
    let l : k < length bits - i = omega (arith, f.1) in
    let e : get_or (range_with_len i (length bits - i)) k 0 ≡ i + k = get_or-range_with_len i (length bits - i) k 0 l in
    sym (unset_one (drop i bits) k (omega (arith, length-drop i bits)) (λ z. f.2 0 (ap (λ (p : ℕ). bit (get_or bits p false)) e ∙ sym (ap (λ (b : Bool). bit b) (get_or-drop i bits k false)) ∙ z)))

pub padding_long : (xs : List Bool) → 8 ≤ length xs → padding xs ≡ false
padding_long xs h = and_left (ltb (length xs) 8) (unset xs) (le-ltb (length xs) 8 h)

pub padding_is : (xs : List Bool) → length xs < 8 → padding xs ≡ unset xs
padding_is xs h = rw (lt-ltb (length xs) 8 h)

-- the padding of bytes, which is less than a byte
pub padded : (bs : List ℕ) (i : ℕ) → padding (drop i (bits_of bs)) ≡ (leb (length bs) ((i + 7) / 8) && unset (drop i (bits_of bs)))
padded bs i =
    let bits = bits_of bs in
    elim (cases_lt ((i + 7) / 8) (length bs)) [
      | inl h ↦ rw (lt-leb (length bs) ((i + 7) / 8) h) (padding_long (drop i bits) (omega (arith, length-drop i bits, bits_of_length bs)))
      | inr h ↦ rw (le-leb (length bs) ((i + 7) / 8) h) (padding_is (drop i bits) (omega (arith, length-drop i bits, bits_of_length bs)))
    ]
