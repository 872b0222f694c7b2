-- Words one behind the other are cut apart again, and only so.
--   drawing_word: the word of a drawing is lawful and draws it
--   word_drawing: what a lawful word draws is a drawing, whose word it is
--   empty_drawing: the empty drawing is one
--   marked_at: a drawing is marked exactly when it is shown
--   not_shown, is_shown: a drawing that is not shown is empty, and one that is shown is not
--   next_written, next_bits: the bits of a symbol and the next symbol of bits
--   Ends: a word is empty or ends in a corner
--   ends_tail, lawful_ends, some_corner: words that end in a corner
--   cut_all: a word that ends in a corner is cut off at its last one
--   cut_word: a lawful word is cut off the bits behind it
--   cut_bits: what is cut off stood there
--   drawings_read: drawings are read from the bits of their words
--   Stood: bits that are read as drawings are those of their words
--   drawings_stood: what is read stood there
use Rattle.std.proofs.Common.{◌≡◌, ℕ, zero, suc, ◌≤◌, Bool, true, false, cond, ◌&&◌, ◌≢◌, ◌↔◌, List, [], ◌∷◌, ◌++◌, length, get_or, Some, Ok, filter, Option, sym, refl, ap, ◌∙◌, subst, append_assoc, arith}
use Rattle.std.specs.List.{flat_map, AllByRecursion}
use Rattle.std.proofs.lemmas.Bool.{true≢false, false≢true, and_parts, and_from, cond-true}
use Rattle.symbols.specs.declared.symbols.Symbol.{Symbol}
use Rattle.symbols.specs.declared.symbols.Symbol.TheVariants.{Corner, DeadEnd, SplitOpen, SplitClose, JunctionOpen, Branch, JunctionClose}
use Rattle.rules.specs.Words.{Drawing, is_corner, corners, ends, or_empty, drawn, lawful, Lawful}
use Rattle.rules.specs.Tables.{word_of, build_word}
use Rattle.rules.proofs.Words.{parts, comes_back}
use Rattle.rules.proofs.Rules.{rules_are_told}
use Rattle.rules.proofs.Correspondence.{words_come_back, tables_come_back}
use Rattle.model.specs.Sheets.{IsDrawing}
use Rattle.codec.specs.Reading.{and_then}
use Rattle.codec.specs.Words.{symbol_bits, next_symbol, left, cut, shown, marks, shown_symbols, read_drawings}
use Rattle.codec.proofs.Reading.{none_some, some_inj, after, allowed, joined_append}

pub drawing_word : (d : Drawing) → IsDrawing d → Lawful (word_of d) × (drawn (word_of d) ≡ d)
drawing_word d h =
    let b : build_word d ≡ Ok (word_of d) = rw ((rules_are_told d).1 h.0, h.1) in
    let t = tables_come_back d (word_of d) b in
    (t.0, ap or_empty t.1 ∙ h.1)

pub word_drawing : (w : List Symbol) → Lawful w → IsDrawing (drawn w) × (word_of (drawn w) ≡ w)
word_drawing w l =
    let c = words_come_back w l in
    let p = parts w l in
    ((c.1, c.2), comes_back w (drawn w) p.four p.read)

pub empty_drawing : IsDrawing []
empty_drawing = (word_drawing (Corner ∷ Corner ∷ Corner ∷ Corner ∷ []) refl).0

pub marked_at : (ds : List Drawing) (k : ℕ) → get_or (marks ds) k false ≡ shown (get_or ds k [])
marked_at [] k = refl
marked_at (d ∷ ds) zero = refl
marked_at (d ∷ ds) (suc k) = marked_at ds k

pub not_shown : (d : Drawing) → shown d ≡ false → d ≡ []
not_shown [] e = refl
not_shown (c ∷ d) e = absurd (true≢false e)

pub is_shown : (d : Drawing) → (shown d ≡ true) ↔ (d ≢ [])
is_shown [] = (λ e. absurd (false≢true e), λ n. absurd (n refl))
is_shown (c ∷ d) = (λ e n. true≢false (ap shown n), λ n. refl)

pub next_written : (s : Symbol) (rest : List Bool) → next_symbol (symbol_bits s ++ rest) ≡ Some (s, rest)
next_written Corner rest = refl
next_written DeadEnd rest = refl
next_written SplitOpen rest = refl
next_written SplitClose rest = refl
next_written JunctionOpen rest = refl
next_written Branch rest = refl
next_written JunctionClose rest = refl

-- the bits of a symbol, and those behind it
abbrev front : Symbol × List Bool → List Bool
front x = symbol_bits x.0 ++ x.1

pub next_bits : (bs : List Bool) (x : Symbol × List Bool) → next_symbol bs ≡ Some x → bs ≡ front x
next_bits [] x e = absurd (none_some e)
next_bits (a ∷ []) x e = absurd (none_some e)
next_bits (a ∷ b ∷ []) x e = absurd (none_some e)
next_bits (false ∷ false ∷ false ∷ bs) x e = ap front (some_inj e)
next_bits (false ∷ false ∷ true ∷ bs) x e = ap front (some_inj e)
next_bits (false ∷ true ∷ false ∷ bs) x e = ap front (some_inj e)
next_bits (false ∷ true ∷ true ∷ bs) x e = ap front (some_inj e)
next_bits (true ∷ false ∷ false ∷ bs) x e = ap front (some_inj e)
next_bits (true ∷ false ∷ true ∷ bs) x e = ap front (some_inj e)
next_bits (true ∷ true ∷ false ∷ bs) x e = ap front (some_inj e)
next_bits (true ∷ true ∷ true ∷ bs) x e = absurd (none_some e)

abbrev pub Ends : List Symbol → Type 0
Ends w = ends true w ≡ true

pub ends_tail : (s : Symbol) (w : List Symbol) → Ends (s ∷ w) → Ends w
ends_tail s [] e = refl
ends_tail s (t ∷ w) e = e

pub lawful_ends : (w : List Symbol) → Lawful w → Ends w
lawful_ends w l = by w (parts w l).last
  where
    by : (v : List Symbol) → ends false v ≡ true → Ends v
    by [] e = refl
    by (s ∷ v) e = e

-- a word that ends in a corner has one
pub some_corner : (w : List Symbol) → ends false w ≡ true → 1 ≤ corners w
some_corner [] e = absurd (false≢true e)
some_corner (s ∷ w) e = by (some_corner w) (is_corner s) e
  where
    by : (ends false w ≡ true → 1 ≤ corners w) → (t : Bool) → ends t w ≡ true → 1 ≤ cond t (suc (corners w)) (corners w)
    by ih true e = omega arith
    by ih false e = ih e

cut_more : (f z m : ℕ) (s : Symbol) (w : List Symbol) (bs rest : List Bool) → left s z ≡ m → cut f m bs ≡ Some (w, rest) → cut (suc f) (suc z) (symbol_bits s ++ bs) ≡ Some (s ∷ w, rest)
cut_more f z m s w bs rest e h =
    ap (λ (o : Option (Symbol × List Bool)). and_then o (λ p. and_then (cut f (left p.0 z) p.1) (λ q. Some (p.0 ∷ q.0, q.1)))) (next_written s bs)
    ∙ ap (λ (n : ℕ). and_then (cut f n bs) (λ q. Some (s ∷ q.0, q.1))) e
    ∙ ap (λ (o : Option (List Symbol × List Bool)). and_then o (λ q. Some (s ∷ q.0, q.1))) h

pub cut_all : (w : List Symbol) (f : ℕ) (rest : List Bool) → length w ≤ f → Ends w → cut f (corners w) (flat_map symbol_bits w ++ rest) ≡ Some (w, rest)
cut_all [] f rest l e = refl
cut_all (s ∷ w) zero rest l e = absurd (omega arith)
cut_all (s ∷ w) (suc f) rest l e = by (cut_all w f rest (omega arith) (ends_tail s w e)) (is_corner s) refl e
  where
    bs : List Bool
    bs = flat_map symbol_bits w ++ rest

    go : is_corner s ≡ false → ends false w ≡ true → (z : ℕ) → corners w ≡ z → cut f z bs ≡ Some (w, rest) → cut (suc f) z (symbol_bits s ++ bs) ≡ Some (s ∷ w, rest)
    go q e zero k ih = absurd (let some = some_corner w e in omega arith)
    go q e (suc z) k ih = cut_more f z (suc z) s w bs rest (rw q) ih

    by : cut f (corners w) bs ≡ Some (w, rest) → (t : Bool) → is_corner s ≡ t → ends t w ≡ true → cut (suc f) (cond t (suc (corners w)) (corners w)) (symbol_bits s ++ bs) ≡ Some (s ∷ w, rest)
    by ih true q e = cut_more f (corners w) (corners w) s w bs rest (rw q) ih
    by ih false q e = go q e (corners w) refl ih

pub cut_word : (w : List Symbol) (rest : List Bool) → Lawful w → cut 64 4 (flat_map symbol_bits w ++ rest) ≡ Some (w, rest)
cut_word w rest l =
    let p = parts w l in
    subst (λ z. cut 64 z (flat_map symbol_bits w ++ rest) ≡ Some (w, rest)) p.four (cut_all w 64 rest p.most (lawful_ends w l))

pub cut_bits : (f z : ℕ) (bs : List Bool) (x : List Symbol × List Bool) → cut f z bs ≡ Some x → bs ≡ flat_map symbol_bits x.0 ++ x.1
cut_bits f zero bs x e = ap (λ (y : List Symbol × List Bool). flat_map symbol_bits y.0 ++ y.1) (some_inj e)
cut_bits zero (suc z) bs x e = absurd (none_some e)
cut_bits (suc f) (suc z) bs x e =
    after (next_symbol bs) _ e λ p a b. after (cut f (left p.0 z) p.1) _ b λ q c d.
    next_bits bs p a ∙ ap (λ l. symbol_bits p.0 ++ l) (cut_bits f (left p.0 z) p.1 q c)
    ∙ sym (append_assoc (symbol_bits p.0) (flat_map symbol_bits q.0) q.1)
    ∙ ap (λ (y : List Symbol × List Bool). flat_map symbol_bits y.0 ++ y.1) (some_inj d)

-- one word more in front
read_more : (w ss : List Symbol) (d : Drawing) (ms : List Bool) (ds : List Drawing) (rest : List Bool) → Lawful w → drawn w ≡ d → shown d ≡ true → read_drawings ms (flat_map symbol_bits ss ++ rest) ≡ Some (ds, rest) → read_drawings (true ∷ ms) (flat_map symbol_bits (w ++ ss) ++ rest) ≡ Some (d ∷ ds, rest)
read_more w ss d ms ds rest l q sh ih =
    let t : (lawful w && shown (drawn w)) ≡ true = and_from (lawful w) (shown (drawn w)) l (ap shown q ∙ sh) in
    rw (joined_append symbol_bits w ss, append_assoc (flat_map symbol_bits w) (flat_map symbol_bits ss) rest, cut_word w (flat_map symbol_bits ss ++ rest) l, t, ih, q)

pub drawings_read : (ds : List Drawing) (rest : List Bool) → AllByRecursion IsDrawing ds → read_drawings (marks ds) (flat_map symbol_bits (shown_symbols ds) ++ rest) ≡ Some (ds, rest)
drawings_read [] rest h = refl
drawings_read ([] ∷ ds) rest h = rw (drawings_read ds rest h.1)
drawings_read ((c ∷ d) ∷ ds) rest h =
    let w = drawing_word (c ∷ d) h.0 in
    read_more (word_of (c ∷ d)) (shown_symbols ds) (c ∷ d) (marks ds) ds rest w.0 w.1 refl (drawings_read ds rest h.1)

pub record Stood (ms bs : List Bool) (x : List Drawing × List Bool) : Type 0 where
  pub marked : marks x.0 ≡ ms
  pub bits : bs ≡ flat_map symbol_bits (shown_symbols x.0) ++ x.1
  pub each : AllByRecursion IsDrawing x.0

word_stood : (w : List Symbol) (ms bs rest : List Bool) (x : List Drawing × List Bool) → Lawful w → shown (drawn w) ≡ true → bs ≡ flat_map symbol_bits w ++ rest → Stood ms rest x → Stood (true ∷ ms) bs (drawn w ∷ x.0, x.1)
word_stood w ms bs rest x l sh e i =
    let d = word_drawing w l in
    let k : shown_symbols (drawn w ∷ x.0) ≡ w ++ shown_symbols x.0 =
    ap (flat_map word_of) (cond-true (shown (drawn w)) (drawn w ∷ filter shown x.0) (filter shown x.0) sh) ∙ ap (λ v. v ++ shown_symbols x.0) d.1 in
    record {
      marked = ap (λ t. t ∷ marks x.0) sh ∙ ap (λ l. true ∷ l) i.marked;
      bits = e ∙ ap (λ l. flat_map symbol_bits w ++ l) i.bits
          ∙ sym (append_assoc (flat_map symbol_bits w) (flat_map symbol_bits (shown_symbols x.0)) x.1)
          ∙ ap (λ l. l ++ x.1) (sym (joined_append symbol_bits w (shown_symbols x.0)) ∙ ap (flat_map symbol_bits) (sym k));
      each = (d.0, i.each);
    }

pub drawings_stood : (ms bs : List Bool) (x : List Drawing × List Bool) → read_drawings ms bs ≡ Some x → Stood ms bs x
drawings_stood [] bs x e = subst (Stood [] bs) (some_inj e) (record { marked = refl; bits = refl; each = tt })
drawings_stood (false ∷ ms) bs x e =
    after (read_drawings ms bs) _ e λ q a b.
    let i = drawings_stood ms bs q a in
    subst (Stood (false ∷ ms) bs) (some_inj b) (record { marked = ap (λ l. false ∷ l) i.marked; bits = i.bits; each = (empty_drawing, i.each) })
drawings_stood (true ∷ ms) bs x e =
    after (cut 64 4 bs) _ e λ p a b. allowed (lawful p.0 && shown (drawn p.0)) _ b λ g c. after (read_drawings ms p.1) _ c λ q d f.
    let t = and_parts (lawful p.0) (shown (drawn p.0)) g in
    subst (Stood (true ∷ ms) bs) (some_inj f) (word_stood p.0 ms bs p.1 q t.0 t.1 (cut_bits 64 4 bs p a) (drawings_stood ms p.1 q d))
