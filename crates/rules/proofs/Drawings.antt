-- A tidy drawing comes back from its word, which is lawful.
--   Inv: the open marks before a number are those of the groups begun that go on
--   tidy_comes_back, tidy_lawful: what the word of a tidy drawing draws, and that it is lawful
--   length_writes: how long it is
use Rattle.std.proofs.Common.{◌≡◌, ℕ, zero, suc, ◌+◌, ◌-◌, ◌<◌, ◌≤◌, Bool, true, false, ◌||◌, eqb, List, [], ◌∷◌, ◌++◌, length, replicate, Some, sym, refl, ap, ◌∙◌, subst, inl, inr, arith, length-append}
use lib.ListN.{length-replicate}
use Rattle.std.proofs.lemmas.Bool.{true≢false, false≢true, or_from, or_left, ne_eqb, eq-eqb, cases_eq, cases_order}
use Rattle.symbols.specs.declared.symbols.Symbol.{Symbol}
use Rattle.symbols.specs.declared.symbols.Symbol.TheVariants.{Corner}
use Rattle.symbols.specs.declared.symbols.Mark.{Mark}
use Rattle.symbols.specs.declared.symbols.Mark.TheVariants.{Split, Junction}
use Rattle.symbols.specs.declared.symbols.Crossing.{Crossing}
use Rattle.rules.specs.Words.{crossing, put, reads, drawing_of, corners, is_corner, ends, Lawful}
use Rattle.rules.specs.Tables.{mentions, symbol_at, writes, word_of}
use Rattle.rules.proofs.Words.{from_parts}
use Rattle.rules.proofs.Marks.{mark_at, holds, Stack, stack_up, stack_fresh, or_skip, Fine, Tidy, Agrees, agrees_tail}

-- The open marks before number k are those of the groups begun that go on in es.
record Inv (k : ℕ) (st : List Mark) (es : List Crossing) : Type 0 where
  stack : Stack k st
  same : (g : ℕ) → g < k → mentions g es ≡ holds g st
  agrees : Agrees st es

pub or_strip : (x y z : Bool) → x ≡ false → (x || y) ≡ z → y ≡ z
or_strip true y z p q = absurd (true≢false p)
or_strip false y z p q = q

-- both sides
pub or_strip₂ : (x y z : Bool) → x ≡ false → (x || y) ≡ (x || z) → y ≡ z
or_strip₂ true y z p q = absurd (true≢false p)
or_strip₂ false y z p q = q

pub one_more : (k : ℕ) (f h : ℕ → Bool) → ((j : ℕ) → j < k → f j ≡ h j) → f k ≡ h k → (j : ℕ) → j < suc k → f j ≡ h j
one_more k f h a b j l =
    elim (cases_eq j k) [ inl e ↦ subst (λ (x : ℕ). f x ≡ h x) (sym e) b | inr n ↦ a j (omega arith) ]

module _ (q r k : ℕ) (es : List Crossing) (w : List Symbol) where
  -- reading goes on after one symbol_at
  abbrev Step : List Mark → ℕ → Bool → Type 0
  Step st g v = Inv k st (crossing r g v ∷ es) → Fine q k (crossing r g v) es → reads r k st (symbol_at v (eqb g k) (mentions g es) ∷ w) ≡ Some (crossing r g v ∷ es)

  module _ (next : (st : List Mark) → Inv (suc k) st es → reads r (suc k) st w ≡ Some es) where
    -- crossing k opens its group, or is alone
    opens : (st : List Mark) (v m : Bool) → mentions k es ≡ m → Step st k v
    opens st true true e i f =
        rw (eq-eqb k k refl, e)
        (ap (put (crossing r k true))
        (next (Junction k ∷ st) (record {
          stack = (omega arith, i.stack);
          same = one_more k (λ j. mentions j es) (λ j. holds j (Junction k ∷ st))
              (λ j h. let n : eqb j k ≡ false = ne_eqb j k (omega arith) in or_strip _ _ _ n (i.same j h) ∙ sym (or_skip _ _ _ n refl))
              (e ∙ sym (or_left _ _ (eq-eqb k k refl)));
          agrees = (f.agree, agrees_tail st _ es i.agrees);
        })))
    opens st false true e i f =
        rw (eq-eqb k k refl, e)
        (ap (put (crossing r k false))
        (next (Split k ∷ st) (record {
          stack = (omega arith, i.stack);
          same = one_more k (λ j. mentions j es) (λ j. holds j (Split k ∷ st))
              (λ j h. let n : eqb j k ≡ false = ne_eqb j k (omega arith) in or_strip _ _ _ n (i.same j h) ∙ sym (or_skip _ _ _ n refl))
              (e ∙ sym (or_left _ _ (eq-eqb k k refl)));
          agrees = (f.agree, agrees_tail st _ es i.agrees);
        })))
    opens st true false e i f =
        rw (eq-eqb k k refl, e)
        (ap (put (crossing r k true))
        (next st (record {
          stack = stack_up st k (suc k) (omega arith) i.stack;
          same = one_more k (λ j. mentions j es) (λ j. holds j st)
              (λ j h. or_strip _ _ _ (ne_eqb j k (omega arith)) (i.same j h))
              (e ∙ sym (stack_fresh st k k (omega arith) i.stack));
          agrees = agrees_tail st _ es i.agrees;
        })))
    opens st false false e i f = absurd (false≢true (sym e ∙ f.opened refl refl))

    -- what the marks must be after the crossing k of the innermost open group g
    kept : (m : Mark) (st : List Mark) (v : Bool) → mentions k es ≡ false → mentions (mark_at m) es ≡ true → Inv k (m ∷ st) (crossing r (mark_at m) v ∷ es) → Inv (suc k) (m ∷ st) es
    kept m st v n e i = record {
      stack = (omega arith, i.stack.1);
      same = one_more k (λ j. mentions j es) (λ j. holds j (m ∷ st))
          (λ j h. elim (cases_eq j (mark_at m)) [
            | inl p ↦ subst (λ (x : ℕ). mentions x es ≡ holds x (m ∷ st)) (sym p) (e ∙ sym (or_left _ (holds (mark_at m) st) (eq-eqb (mark_at m) (mark_at m) refl)))
            | inr d ↦ or_strip _ _ _ (ne_eqb j (mark_at m) d) (i.same j h)
          ])
          (n ∙ sym (stack_fresh (m ∷ st) k k (omega arith) i.stack));
      agrees = agrees_tail (m ∷ st) _ es i.agrees;
    }

    left : (m : Mark) (st : List Mark) (v : Bool) → mentions k es ≡ false → mentions (mark_at m) es ≡ false → Inv k (m ∷ st) (crossing r (mark_at m) v ∷ es) → Inv (suc k) st es
    left m st v n e i = record {
      stack = stack_up st (mark_at m) (suc k) (omega arith) i.stack.1;
      same = one_more k (λ j. mentions j es) (λ j. holds j st)
          (λ j h. elim (cases_eq j (mark_at m)) [
            | inl p ↦ subst (λ (x : ℕ). mentions x es ≡ holds x st) (sym p) (e ∙ sym (stack_fresh st (mark_at m) (mark_at m) (omega arith) i.stack.1))
            | inr d ↦ or_strip₂ _ _ _ (ne_eqb j (mark_at m) d) (i.same j h)
          ])
          (n ∙ sym (stack_fresh st k k (omega arith) (stack_up st (mark_at m) k (omega arith) i.stack.1)));
      agrees = agrees_tail st _ es i.agrees.1;
    }

    -- crossing k belongs to the innermost open group
    goes_on : (m : Mark) (st : List Mark) (v b : Bool) → mentions k es ≡ false → mentions (mark_at m) es ≡ b → Step (m ∷ st) (mark_at m) v
    goes_on (Junction g) st true true n e i f =
        rw (ne_eqb g k (omega arith), e) (ap (put (crossing r g true)) (next (Junction g ∷ st) (kept (Junction g) st true n e i)))
    goes_on (Junction g) st true false n e i f =
        rw (ne_eqb g k (omega arith), e) (ap (put (crossing r g true)) (next st (left (Junction g) st true n e i)))
    goes_on (Junction g) st false b n e i f = absurd (false≢true (i.agrees.0.0 refl))
    goes_on (Split g) st true b n e i f = absurd (true≢false (i.agrees.0.0 refl))
    goes_on (Split g) st false true n e i f = absurd (true≢false (sym e ∙ f.closed refl (omega arith)))
    goes_on (Split g) st false false n e i f =
        rw (ne_eqb g k (omega arith), e) (ap (put (crossing r g false)) (next st (left (Split g) st false n e i)))

    -- crossing k belongs to an open group: it is the innermost one
    on : (st : List Mark) (g : ℕ) (v : Bool) → g < k → mentions k es ≡ false → Step st g v
    on [] g v h n i f = absurd (true≢false (sym (or_left _ _ (eq-eqb g g refl)) ∙ i.same g h))
    on (m ∷ st) g v h n i f =
        elim (cases_order g (mark_at m)) [
          | inl p ↦ subst (λ (x : ℕ). Step (m ∷ st) x v) (sym p) (goes_on m st v _ n refl) i f
          | inr d ↦ elim d [
            | inl b ↦ absurd (true≢false
                (sym (i.same (mark_at m) (omega arith) ∙ or_left _ (holds (mark_at m) st) (eq-eqb (mark_at m) (mark_at m) refl))
                ∙ or_from _ _ (ne_eqb (mark_at m) g (omega arith)) (f.nested (mark_at m) b (omega arith))))
            | inr a ↦ absurd (true≢false
                (sym (or_left _ _ (eq-eqb g g refl)) ∙ i.same g h
                ∙ or_from _ _ (ne_eqb g (mark_at m) (omega arith)) (stack_fresh st (mark_at m) g (omega arith) i.stack.1)))
          ]
        ]

    one : (st : List Mark) (g : ℕ) (v : Bool) → Step st g v
    one st g v i f =
        elim f.named [
          | inl p ↦ subst (λ (x : ℕ). Step st x v) (sym p) (opens st v _ refl) i f
          | inr c ↦ on st g v c.0 c.1 i f
        ]

skip : (n r s k : ℕ) (st : List Mark) (w : List Symbol) → n + r ≡ s → reads r k st (replicate n Corner ++ w) ≡ reads s k st w
skip zero r s k st w e = let z : r ≡ s = omega arith in rw z
skip (suc n) r s k st w e = skip n (suc r) s k st w (omega arith)

done : (n r k : ℕ) → reads r k [] (replicate n Corner) ≡ Some []
done zero r k = refl
done (suc n) r k = done n (suc r) k

tidy_reads : (es : List Crossing) (r k : ℕ) (st : List Mark) → Inv k st es → Tidy r k es → reads r k st (writes r k es) ≡ Some es
tidy_reads [] r k [] i t = done (4 - r) r k
tidy_reads [] r k (m ∷ st) i t = absurd (false≢true (i.same (mark_at m) i.stack.0 ∙ or_left _ (holds (mark_at m) st) (eq-eqb (mark_at m) (mark_at m) refl)))
tidy_reads (e ∷ es) r k st i t =
    skip (e.road - r) r e.road k st _ (omega arith)
    ∙ one r e.road k es (writes e.road (suc k) es) (λ s j. tidy_reads es e.road (suc k) s j t.1) st e.group e.vertex i t.0

-- A tidy drawing is the drawing of its word.
pub tidy_comes_back : (d : List Crossing) → Tidy 0 0 d → drawing_of (word_of d) ≡ Some d
tidy_comes_back d t = tidy_reads d 0 0 [] (record { stack = tt; same = λ g h. absurd (omega arith); agrees = tt }) t

-- The word of a tidy drawing has four corners, one of them last, and a symbol_at for each crossing.

corners_run : (n : ℕ) (w : List Symbol) → corners (replicate n Corner ++ w) ≡ n + corners w
corners_run zero w = omega arith
corners_run (suc n) w = omega (arith, corners_run n w)

corners_all : (n : ℕ) → corners (replicate n Corner) ≡ n
corners_all zero = refl
corners_all (suc n) = ap suc (corners_all n)

no_corner : (v a b : Bool) (w : List Symbol) → corners (symbol_at v a b ∷ w) ≡ corners w
no_corner true true true w = refl
no_corner true true false w = refl
no_corner true false true w = refl
no_corner true false false w = refl
no_corner false true true w = refl
no_corner false true false w = refl
no_corner false false true w = refl
no_corner false false false w = refl

pub corners_writes : (es : List Crossing) (r k : ℕ) → r ≤ 3 → Tidy r k es → corners (writes r k es) ≡ 4 - r
corners_writes [] r k h t = corners_all (4 - r)
corners_writes (e ∷ es) r k h t =
    let w = writes e.road (suc k) es in
    let s = symbol_at e.vertex (eqb e.group k) (mentions e.group es) in
    let p = corners_run (e.road - r) (s ∷ w) in
    let q = no_corner e.vertex (eqb e.group k) (mentions e.group es) w in
    let i = corners_writes es e.road (suc k) t.0.three t.1 in
    p ∙ omega (arith, q, i, t.0.low, t.0.three)

pub length_writes : (es : List Crossing) (r k : ℕ) → r ≤ 3 → Tidy r k es → length (writes r k es) ≡ (4 - r) + length es
length_writes [] r k h t = length-replicate (4 - r) Corner ∙ omega arith
length_writes (e ∷ es) r k h t =
    let w = writes e.road (suc k) es in
    let s = symbol_at e.vertex (eqb e.group k) (mentions e.group es) in
    length-append (replicate (e.road - r) Corner) (s ∷ w)
    ∙ omega (arith, length-replicate (e.road - r) Corner, length_writes es e.road (suc k) t.0.three t.1, t.0.low, t.0.three)

ends_all : (n : ℕ) → ends true (replicate n Corner) ≡ true
ends_all zero = refl
ends_all (suc n) = ends_all n

ends_run : (n : ℕ) (b : Bool) (s : Symbol) (w : List Symbol) → ends b (replicate n Corner ++ (s ∷ w)) ≡ ends (is_corner s) w
ends_run zero b s w = refl
ends_run (suc n) b s w = ends_run n true s w

pub ends_writes : (es : List Crossing) (r k : ℕ) (b : Bool) → r ≤ 3 → Tidy r k es → ends b (writes r k es) ≡ true
ends_writes [] r k b h t =
    let z : 4 - r ≡ suc (3 - r) = omega arith in
    rw z (ends_all (3 - r))
ends_writes (e ∷ es) r k b h t =
    ends_run (e.road - r) b _ (writes e.road (suc k) es)
    ∙ ends_writes es e.road (suc k) _ t.0.three t.1

pub tidy_lawful : (d : List Crossing) → Tidy 0 0 d → length d ≤ 60 → Lawful (word_of d)
tidy_lawful d t h =
    from_parts (word_of d) (corners_writes d 0 0 (omega arith) t) (ends_writes d 0 0 false (omega arith) t)
    (omega (arith, length_writes d 0 0 (omega arith) t))
    (omega (arith, length_writes d 0 0 (omega arith) t))
    (rw (tidy_comes_back d t))
