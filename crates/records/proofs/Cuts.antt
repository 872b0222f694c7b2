-- A word cut off symbol by symbol.
--   prefixed: an answer of cutting with symbols before it
--   Cutting: the symbols w are cut off, and z corners are to come
--   cut_begins, cut_on, cut_stops, cut_ends, cut_over: the loop's start, its turn, and its three ends
--   Skipping: i words are passed over, and the next begins at an index
--   skip_begins, skip_on, skip_stops, skip_bad, skip_all: the loop's start, its turn, and its three ends
use Rattle.std.proofs.Common.{◌≡◌, ℕ, zero, suc, ◌+◌, ◌-◌, ◌*◌, ◌<◌, ◌≤◌, Bool, true, false, cond, List, [], ◌∷◌, ◌++◌, length, drop, Some, None, Option, sym, refl, ap, ◌∙◌, inl, inr, append_assoc, arith, length-append, length-drop}
use Rattle.std.specs.Option.{option_map}
use Rattle.std.proofs.lemmas.Bool.{cases_lt}
use Rattle.std.proofs.lemmas.List.{append-nil}
use Rattle.symbols.specs.declared.symbols.Symbol.{Symbol}
use Rattle.rules.specs.Words.{is_corner}
use Rattle.codec.specs.Reading.{and_then, guard}
use Rattle.codec.specs.Bits.{bits_of}
use Rattle.codec.specs.Words.{left, cut}
use Rattle.codec.proofs.Reading.{none_some}
use Rattle.codec.proofs.Bits.{bits_of_length}
use Rattle.records.specs.Packed.{symbol_at}
use Rattle.records.specs.Behind.{CutOff, skips}
use Rattle.records.proofs.Triples.{next_short, symbol_next, symbol_none}

abbrev Cut : Type 0
Cut = List Symbol × List Bool

abbrev pub prefixed : List Symbol → Option (List Symbol × List Bool) → Option (List Symbol × List Bool)
prefixed w o = and_then o (λ q. Some (w ++ q.0, q.1))

pub record Cutting (bs : List ℕ) (from z : ℕ) (w : List Symbol) : Type 0 where
  pub off : cut 64 4 (drop (3 * from) (bits_of bs)) ≡ prefixed w (cut (64 - length w) z (drop (3 * (from + length w)) (bits_of bs)))
  pub most : z ≤ 4
  pub within : z < 4 → 3 * (from + length w) ≤ 8 * length bs

prefixed_none : (o : Option Cut) → prefixed [] o ≡ o
prefixed_none None = refl
prefixed_none (Some q) = refl

pub cut_begins : (bs : List ℕ) (from : ℕ) (w : List Symbol) → w ≡ [] → Cutting bs from 4 w
cut_begins bs from w none =
    let e : from + 0 ≡ from = omega arith in
    rw none record {
      off = sym (prefixed_none (cut 64 4 (drop (3 * (from + 0)) (bits_of bs))) ∙ ap (λ (k : ℕ). cut 64 4 (drop (3 * k) (bits_of bs))) e);
      most = omega arith;
      within = λ h. absurd (omega (arith, h));
    }

-- one symbol more is cut off
more : (bs : List ℕ) (k f z : ℕ) (w : List Symbol) (s : Symbol) → symbol_at bs k ≡ Some s → 1 ≤ z → prefixed w (cut (suc f) z (drop (3 * k) (bits_of bs))) ≡ prefixed (w ++ (s ∷ [])) (cut f (left s (z - 1)) (drop (3 * (k + 1)) (bits_of bs)))
more bs k f zero w s e h = absurd (omega arith)
more bs k f (suc z) w s e h =
    let n : suc z - 1 ≡ z = omega arith in
    ap (λ (o : Option (Symbol × List Bool)). prefixed w (and_then o (λ p. and_then (cut f (left p.0 z) p.1) (λ q. Some (p.0 ∷ q.0, q.1))))) (symbol_next bs k s e)
    ∙ joins (cut f (left s z) (drop (3 * (k + 1)) (bits_of bs)))
    ∙ ap (λ (m : ℕ). prefixed (w ++ (s ∷ [])) (cut f (left s m) (drop (3 * (k + 1)) (bits_of bs)))) (sym n)
  where
    joins : (o : Option Cut) → prefixed w (and_then o (λ q. Some (s ∷ q.0, q.1))) ≡ prefixed (w ++ (s ∷ [])) o
    joins None = refl
    joins (Some q) = ap (λ (l : List Symbol). Some (l, q.1)) (sym (append_assoc w (s ∷ []) q.0))

-- what one turn leaves
turned : (bs : List ℕ) (from z : ℕ) (w v : List Symbol) (s : Symbol) → length v ≤ 64 → v ≡ w ++ (s ∷ []) → 1 ≤ z → symbol_at bs (from + length w) ≡ Some s → Cutting bs from z w → cut 64 4 (drop (3 * from) (bits_of bs)) ≡ prefixed v (cut (64 - length v) (left s (z - 1)) (drop (3 * (from + length v)) (bits_of bs)))
turned bs from z w v s h is some e c =
    let l : length v ≡ length w + 1 = omega (arith, ap length is, length-append w (s ∷ [])) in
    let n : 64 - length w ≡ suc (64 - length v) = omega arith in
    let k : from + length w + 1 ≡ from + length v = omega arith in
    c.off
    ∙ ap (λ (f : ℕ). prefixed w (cut f z (drop (3 * (from + length w)) (bits_of bs)))) n
    ∙ more bs (from + length w) (64 - length v) z w s e some
    ∙ ap (λ (x : List Symbol). prefixed x (cut (64 - length v) (left s (z - 1)) (drop (3 * (from + length w + 1)) (bits_of bs)))) (sym is)
    ∙ ap (λ (m : ℕ). prefixed v (cut (64 - length v) (left s (z - 1)) (drop (3 * m) (bits_of bs)))) k

left_most : (s : Symbol) (z : ℕ) → 1 ≤ z → left s (z - 1) ≤ z
left_most s zero h = absurd (omega arith)
left_most s (suc z) h = by (is_corner s)
  where
    by : (t : Bool) → cond t (suc z - 1) (suc (suc z - 1)) ≤ suc z
    by true = omega arith
    by false = omega arith

-- a symbol lies within the bytes
within : (bs : List ℕ) (k : ℕ) (s : Symbol) → symbol_at bs k ≡ Some s → 3 * (k + 1) ≤ 8 * length bs
within bs k s e =
    let bits = bits_of bs in
    elim (cases_lt (length (drop (3 * k) bits)) 3) [
      | inl l ↦ absurd (none_some (sym (ap (option_map (λ (p : Symbol × List Bool). p.0)) (next_short (drop (3 * k) bits) l)) ∙ e))
      | inr l ↦ omega (arith, length-drop (3 * k) bits, bits_of_length bs)
    ]

pub cut_on : (bs : List ℕ) (from z y : ℕ) (w v : List Symbol) (s : Symbol) → length v ≤ 64 → v ≡ w ++ (s ∷ []) → 1 ≤ z → symbol_at bs (from + length w) ≡ Some s → y ≡ left s (z - 1) → Cutting bs from z w → Cutting bs from y v
cut_on bs from z y w v s h is some e q c = record {
  off = turned bs from z w v s h is some e c ∙ ap (λ (m : ℕ). prefixed v (cut (64 - length v) m (drop (3 * (from + length v)) (bits_of bs)))) (sym q);
  most = omega (arith, left_most s z some, c.most);
  within = λ x. omega (arith, within bs (from + length w) s e, ap length is, length-append w (s ∷ []));
}

pub cut_ends : (bs : List ℕ) (from z : ℕ) (w : List Symbol) → length w ≤ 64 → z ≡ 0 → Cutting bs from z w → CutOff bs from w
cut_ends bs from z w h none c =
    let rest = drop (3 * (from + length w)) (bits_of bs) in
    record {
      off = c.off ∙ ap (λ (m : ℕ). prefixed w (cut (64 - length w) m rest)) none ∙ ap (λ (y : List Symbol). Some (y, rest)) (append-nil w);
      few = h;
      within = c.within (omega arith);
    }

pub cut_over : (bs : List ℕ) (from z : ℕ) (w : List Symbol) → 64 ≤ length w → 1 ≤ z → Cutting bs from z w → cut 64 4 (drop (3 * from) (bits_of bs)) ≡ None
cut_over bs from zero w h some c = absurd (omega arith)
cut_over bs from (suc z) w h some c =
    let n : 64 - length w ≡ 0 = omega arith in
    c.off ∙ ap (λ (f : ℕ). prefixed w (cut f (suc z) (drop (3 * (from + length w)) (bits_of bs)))) n

pub cut_stops : (bs : List ℕ) (from z : ℕ) (w : List Symbol) → symbol_at bs (from + length w) ≡ None → 1 ≤ z → Cutting bs from z w → cut 64 4 (drop (3 * from) (bits_of bs)) ≡ None
cut_stops bs from zero w e some c = absurd (omega arith)
cut_stops bs from (suc z) w e some c =
    elim (cases_lt (length w) 64) [
      | inl l ↦
          let n : 64 - length w ≡ suc (64 - (length w + 1)) = omega arith in
          c.off
          ∙ ap (λ (f : ℕ). prefixed w (cut f (suc z) (drop (3 * (from + length w)) (bits_of bs)))) n
          ∙ ap (λ (o : Option (Symbol × List Bool)). prefixed w (and_then o (λ p. and_then (cut (64 - (length w + 1)) (left p.0 z) p.1) (λ q. Some (p.0 ∷ q.0, q.1))))) (symbol_none bs (from + length w) e)
      | inr g ↦ cut_over bs from (suc z) w g some c
    ]

-- words passed over

pub record Skipping (ok : List Symbol → Bool) (bs : List ℕ) (words i from : ℕ) : Type 0 where
  pub off : skips ok words (bits_of bs) ≡ skips ok (words - i) (drop (3 * from) (bits_of bs))
  pub few : from ≤ 64 * i
  pub within : 3 * from ≤ 8 * length bs

pub skip_begins : (ok : List Symbol → Bool) (bs : List ℕ) (words : ℕ) → Skipping ok bs words 0 0
skip_begins ok bs words = (let e : words ≡ words - 0 = omega arith in record { off = ap (λ (m : ℕ). skips ok m (bits_of bs)) e; few = omega arith; within = omega arith })

-- the words to come, with one of them told apart
one : (ok : List Symbol → Bool) (bs : List ℕ) (words i from : ℕ) → i < words → Skipping ok bs words i from → skips ok words (bits_of bs) ≡ skips ok (suc (words - (i + 1))) (drop (3 * from) (bits_of bs))
one ok bs words i from h v = (let n : words - i ≡ suc (words - (i + 1)) = omega arith in v.off ∙ ap (λ (m : ℕ). skips ok m (drop (3 * from) (bits_of bs))) n)

judged : (ok : List Symbol → Bool) (bs : List ℕ) (words i from : ℕ) (w : List Symbol) (t : Bool) → i < words → CutOff bs from w → ok w ≡ t → Skipping ok bs words i from → skips ok words (bits_of bs) ≡ guard t (skips ok (words - (i + 1)) (drop (3 * (from + length w)) (bits_of bs)))
judged ok bs words i from w t h c e v =
    one ok bs words i from h v
    ∙ ap (λ (o : Option Cut). and_then o (λ p. guard (ok p.0) (skips ok (words - (i + 1)) p.1))) c.off
    ∙ ap (λ (x : Bool). guard x (skips ok (words - (i + 1)) (drop (3 * (from + length w)) (bits_of bs)))) e

pub skip_on : (ok : List Symbol → Bool) (bs : List ℕ) (words i from : ℕ) (w : List Symbol) → i < words → CutOff bs from w → ok w ≡ true → Skipping ok bs words i from → Skipping ok bs words (i + 1) (from + length w)
skip_on ok bs words i from w h c e v = record {
  off = judged ok bs words i from w true h c e v;
  few = omega (arith, c.few, v.few);
  within = c.within;
}

pub skip_bad : (ok : List Symbol → Bool) (bs : List ℕ) (words i from : ℕ) (w : List Symbol) → i < words → CutOff bs from w → ok w ≡ false → Skipping ok bs words i from → skips ok words (bits_of bs) ≡ None
skip_bad ok bs words i from w h c e v = judged ok bs words i from w false h c e v

pub skip_stops : (ok : List Symbol → Bool) (bs : List ℕ) (words i from : ℕ) → i < words → cut 64 4 (drop (3 * from) (bits_of bs)) ≡ None → Skipping ok bs words i from → skips ok words (bits_of bs) ≡ None
skip_stops ok bs words i from h e v =
    one ok bs words i from h v
    ∙ ap (λ (o : Option Cut). and_then o (λ p. guard (ok p.0) (skips ok (words - (i + 1)) p.1))) e

pub skip_all : (ok : List Symbol → Bool) (bs : List ℕ) (words i from : ℕ) → words ≤ i → Skipping ok bs words i from → skips ok words (bits_of bs) ≡ Some (drop (3 * from) (bits_of bs))
skip_all ok bs words i from h v = (let n : words - i ≡ 0 = omega arith in v.off ∙ ap (λ (m : ℕ). skips ok m (drop (3 * from) (bits_of bs))) n)
