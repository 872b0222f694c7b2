-- The stack's test passes exactly where no groups cross.
--   Falls: the open groups' first records fall, from below a number
--   Named: each number is its own place, or a smaller place's number
--   Nested: no group that begins inside another one goes on behind it
--   Open: the open groups are those begun that go on
--   later, sooner: a group's first record that stands further on, and a record of that group there
--   firsts_at, length_firsts: the first records of a table's groups, by number
--   stack_decides: the theorem
use Rattle.std.proofs.Common.{◌≡◌, ℕ, zero, suc, ◌+◌, ◌-◌, ◌<◌, ◌≤◌, Bool, true, false, cond, eqb, ◌⊎◌, ◌↔◌, List, [], ◌∷◌, length, get_or, drop, Some, None, Option, sym, refl, ap, ◌∙◌, subst, inl, inr, arith, drop-cons}
use Rattle.std.proofs.lemmas.List.{length-drop, length-map, get_or-drop, get_or-map, drop_all}
use Rattle.std.proofs.lemmas.Bool.{true≢false, false≢true, or_from, or_left, or_right, or_cases, ne_eqb, eq-eqb, eqb-true, cases_eq, cases_lt, cases_Bool, cases_order}
use Rattle.symbols.specs.declared.symbols.Crossing.{Crossing}
use Rattle.rules.specs.Tables.{at, blank, Uncrossed}
use Rattle.tables.specs.Nests.{within, firsts, firsts_in, turn, nests}
use Rattle.rules.proofs.Marks.{or_skip}
use Rattle.rules.proofs.Drawings.{or_strip, or_strip₂, one_more}
use Rattle.rules.proofs.Tables.{leader, first_le, first_group, same_first, same_group}

abbrev Falls : ℕ → List ℕ → Type 0
Falls k [] = Unit {0}
Falls k (g ∷ st) = (g < k) × Falls g st

falls_up : (st : List ℕ) (j k : ℕ) → j ≤ k → Falls j st → Falls k st
falls_up [] j k h s = tt
falls_up (m ∷ st) j k h s = (omega arith, s.1)

falls_fresh : (st : List ℕ) (k g : ℕ) → k ≤ g → Falls k st → within g st ≡ false
falls_fresh [] k g h s = refl
falls_fresh (m ∷ st) k g h s = or_from _ _ (ne_eqb g m (omega arith)) (falls_fresh st m g (omega arith) s.1)

-- each number is its own first_of, or a smaller first_of's number, whose own it is
abbrev Named : ℕ → List ℕ → Type 0
Named k [] = Unit {0}
Named k (g ∷ gs) = ((g ≡ k) ⊎ ((g < k) × (within k gs ≡ false))) × Named (suc k) gs

abbrev Nested : ℕ → List ℕ → Type 0
Nested k [] = Unit {0}
Nested k (g ∷ gs) = ((h : ℕ) → g < h → h < k → within h gs ≡ false) × Nested (suc k) gs

record Open (k : ℕ) (st gs : List ℕ) : Type 0 where
  falls : Falls k st
  same : (g : ℕ) → g < k → within g gs ≡ within g st

pub nests_none : (k : ℕ) (gs : List ℕ) → nests k None gs ≡ false
nests_none k [] = refl
nests_none k (g ∷ gs) = nests_none (suc k) gs

-- record k begins its group
begun : (k : ℕ) (gs st : List ℕ) (more : Bool) → within k gs ≡ more → Open k st (k ∷ gs) → Open (suc k) (cond more (k ∷ st) st) gs
begun k gs st true e i = record {
  falls = (omega arith, i.falls);
  same = one_more k (λ j. within j gs) (λ j. within j (k ∷ st))
      (λ j h. let n : eqb j k ≡ false = ne_eqb j k (omega arith) in or_strip _ _ _ n (i.same j h) ∙ sym (or_skip _ _ _ n refl))
      (e ∙ sym (or_left _ (within k st) (eq-eqb k k refl)));
}
begun k gs st false e i = record {
  falls = falls_up st k (suc k) (omega arith) i.falls;
  same = one_more k (λ j. within j gs) (λ j. within j st)
      (λ j h. or_strip _ _ _ (ne_eqb j k (omega arith)) (i.same j h))
      (e ∙ sym (falls_fresh st k k (omega arith) i.falls));
}

-- record k is of the innermost open group
went : (k g : ℕ) (gs st : List ℕ) (more : Bool) → within g gs ≡ more → within k gs ≡ false → Open k (g ∷ st) (g ∷ gs) → Open (suc k) (cond more (g ∷ st) st) gs
went k g gs st true e n i = record {
  falls = (omega arith, i.falls.1);
  same = one_more k (λ j. within j gs) (λ j. within j (g ∷ st))
      (λ j h. elim (cases_eq j g) [
        | inl p ↦ subst (λ (x : ℕ). within x gs ≡ within x (g ∷ st)) (sym p) (e ∙ sym (or_left _ (within g st) (eq-eqb g g refl)))
        | inr d ↦ or_strip _ _ _ (ne_eqb j g d) (i.same j h)
      ])
      (n ∙ sym (falls_fresh (g ∷ st) k k (omega arith) i.falls));
}
went k g gs st false e n i = record {
  falls = falls_up st g (suc k) (omega arith) i.falls.1;
  same = one_more k (λ j. within j gs) (λ j. within j st)
      (λ j h. elim (cases_eq j g) [
        | inl p ↦ subst (λ (x : ℕ). within x gs ≡ within x st) (sym p) (e ∙ sym (falls_fresh st g g (omega arith) i.falls.1))
        | inr d ↦ or_strip₂ _ _ _ (ne_eqb j g d) (i.same j h)
      ])
      (n ∙ sym (falls_fresh st g k (omega arith) i.falls.1));
}

abbrev Judges : ℕ → List ℕ → List ℕ → Type 0
Judges k st gs = (nests k (Some st) gs ≡ true) ↔ Nested k gs

module _ (k g : ℕ) (gs : List ℕ) (next : (st : List ℕ) → Open (suc k) st gs → Judges (suc k) st gs) where
  -- the group k begins here
  begins : (st : List ℕ) → g ≡ k → Open k st (g ∷ gs) → Judges k st (g ∷ gs)
  begins st p i =
      let d = next _ (begun k gs st (within k gs) refl (subst (λ (x : ℕ). Open k st (x ∷ gs)) p i)) in
      let s : turn k g (within g gs) (Some st) ≡ Some (cond (within k gs) (k ∷ st) st) = rw (p, eq-eqb k k refl) in (
        λ e. (λ h x y. absurd (omega arith), d.0 (subst (λ (o : Option (List ℕ)). nests (suc k) o gs ≡ true) s e)),
        λ n. subst (λ (o : Option (List ℕ)). nests (suc k) o gs ≡ true) (sym s) (d.1 n.1),
      )

  goes_on : (h : ℕ) (st : List ℕ) → g < k → within k gs ≡ false → Open k (h ∷ st) (g ∷ gs) → (g ≡ h) ⊎ (g ≡ h → ⊥) → Judges k (h ∷ st) (g ∷ gs)
  goes_on h st l n i (inl p) =
      let j : Open k (g ∷ st) (g ∷ gs) = subst (λ (x : ℕ). Open k (x ∷ st) (g ∷ gs)) (sym p) i in
      let d = next _ (went k g gs st (within g gs) refl n j) in
      let s : turn k g (within g gs) (Some (h ∷ st)) ≡ Some (cond (within g gs) (g ∷ st) st) = rw (← p, ne_eqb g k (omega arith), eq-eqb g g refl) in (
        λ e. (
          λ x a b. or_strip _ _ _ (ne_eqb x g (omega arith)) (j.same x b ∙ falls_fresh (g ∷ st) (suc g) x a (omega arith, j.falls.1)),
          d.0 (subst (λ (o : Option (List ℕ)). nests (suc k) o gs ≡ true) s e),
        ),
        λ m. subst (λ (o : Option (List ℕ)). nests (suc k) o gs ≡ true) (sym s) (d.1 m.1),
      )
  goes_on h st l n i (inr p) =
      let s : turn k g (within g gs) (Some (h ∷ st)) ≡ None = rw (ne_eqb g k (omega arith), ne_eqb g h p) in
      let f : nests k (Some (h ∷ st)) (g ∷ gs) ≡ false = ap (λ (o : Option (List ℕ)). nests (suc k) o gs) s ∙ nests_none (suc k) gs in
      let u : g < h =
      elim (cases_lt g h) [
        | inl a ↦ a
        | inr b ↦ absurd (true≢false
            (sym (or_left _ (within g gs) (eq-eqb g g refl)) ∙ i.same g l ∙ or_from _ _ (ne_eqb g h p) (falls_fresh st h g b i.falls.1)))
      ] in (
        λ e. absurd (false≢true (sym f ∙ e)),
        λ m. absurd (true≢false
            (sym (i.same h i.falls.0 ∙ or_left _ (within h st) (eq-eqb h h refl)) ∙ or_from _ _ (ne_eqb h g (omega arith)) (m.0 h u i.falls.0))),
      )

  one : (st : List ℕ) → (g ≡ k) ⊎ ((g < k) × (within k gs ≡ false)) → Open k st (g ∷ gs) → Judges k st (g ∷ gs)
  one st (inl p) i = begins st p i
  one [] (inr p) i = absurd (true≢false (sym (or_left _ (within g gs) (eq-eqb g g refl)) ∙ i.same g p.0))
  one (h ∷ st) (inr p) i = goes_on h st p.0 p.1 i (cases_eq g h)

judges : (gs : List ℕ) (k : ℕ) (st : List ℕ) → Named k gs → Open k st gs → Judges k st gs
judges [] k st a i = (λ e. tt, λ n. refl)
judges (g ∷ gs) k st a i = one k g gs (λ s j. judges gs (suc k) s a.1 j) st a.0 i

-- the first records of a table's groups

pub within_from : (h : ℕ) (xs : List ℕ) → within h xs ≡ true → (i : ℕ) × (i < length xs) × (get_or xs i 0 ≡ h)
within_from h [] p = absurd (false≢true p)
within_from h (x ∷ xs) p =
    elim (or_cases (eqb h x) (within h xs) p) [
      | inl e ↦ (0, omega arith, sym (eqb-true h x e))
      | inr m ↦ (let r = within_from h xs m in (suc r.0, omega arith, r.2))
    ]

pub within_at : (h : ℕ) (xs : List ℕ) (i : ℕ) → i < length xs → get_or xs i 0 ≡ h → within h xs ≡ true
within_at h [] i l e = absurd (omega arith)
within_at h (x ∷ xs) zero l e = or_left _ _ (eq-eqb h x (sym e))
within_at h (x ∷ xs) (suc i) l e = or_right _ _ (within_at h xs i (omega arith) e)

pub never : (h : ℕ) (xs : List ℕ) → (within h xs ≡ true → ⊥) → within h xs ≡ false
never h xs n = elim (cases_Bool (within h xs)) [ inl t ↦ absurd (n t) | inr f ↦ f ]

pub firsts_at : (t : List Crossing) (i : ℕ) → i < length t → get_or (firsts t) i 0 ≡ leader t i
firsts_at t i h = get_or-map (firsts_in t) t i blank 0 h

pub length_firsts : (t : List Crossing) → length (firsts t) ≡ length t
length_firsts t = length-map t (firsts_in t)

pub later : (t : List Crossing) (h m : ℕ) → within h (drop m (firsts t)) ≡ true → (j : ℕ) × (m ≤ j) × (j < length t) × (leader t j ≡ h)
later t h m p =
    let r = within_from h (drop m (firsts t)) p in
    let l : m + r.0 < length t = omega (arith, r.1, length-drop m (firsts t), length_firsts t) in
    (m + r.0, omega arith, l, sym (get_or-drop m (firsts t) r.0 0 ∙ firsts_at t (m + r.0) l) ∙ r.2)

pub sooner : (t : List Crossing) (h m j : ℕ) → m ≤ j → j < length t → leader t j ≡ h → within h (drop m (firsts t)) ≡ true
sooner t h m j a b e =
    let z : m + (j - m) ≡ j = omega arith in
    within_at h (drop m (firsts t)) (j - m) (omega (arith, length-drop m (firsts t), length_firsts t))
    (get_or-drop m (firsts t) (j - m) 0 ∙ ap (λ (x : ℕ). get_or (firsts t) x 0) z ∙ firsts_at t j b ∙ e)

drop_firsts : (t : List Crossing) (k : ℕ) → k < length t → drop k (firsts t) ≡ (leader t k ∷ drop (suc k) (firsts t))
drop_firsts t k h = drop-cons (firsts t) k 0 (omega (arith, length_firsts t)) ∙ ap (λ (x : ℕ). x ∷ drop (suc k) (firsts t)) (firsts_at t k h)

firsts_named : (t : List Crossing) (n k : ℕ) → k + n ≡ length t → Named k (drop k (firsts t))
firsts_named t zero k e = subst (Named k) (sym (drop_all k (firsts t) (omega (arith, length_firsts t)))) tt
firsts_named t (suc n) k e =
    let h : k < length t = omega arith in
    subst (Named k) (sym (drop_firsts t k h)) (
      elim (cases_eq (leader t k) k) [
        | inl p ↦ inl p
        | inr d ↦ inr (
          omega (arith, first_le t k h),
          never k _ (λ p.
              let r = later t k (suc k) p in
              d (same_first t k r.0 (ap (λ (x : ℕ). (at t x).group) (sym r.3) ∙ first_group t r.0 r.2) ∙ r.3)),
        )
      ],
      firsts_named t n (suc k) (omega arith),
    )

uncrossed_nests : (t : List Crossing) → Uncrossed t → (n k : ℕ) → k + n ≡ length t → Nested k (drop k (firsts t))
uncrossed_nests t u zero k e = subst (Nested k) (sym (drop_all k (firsts t) (omega (arith, length_firsts t)))) tt
uncrossed_nests t u (suc n) k e =
    let h : k < length t = omega arith in
    subst (Nested k) (sym (drop_firsts t k h)) (
      λ h' a b. never h' _ (λ p.
          let r = later t h' (suc k) p in
          let g : (at t h').group ≡ (at t r.0).group = ap (λ (x : ℕ). (at t x).group) (sym r.3) ∙ first_group t r.0 r.2 in
          u (leader t k) h' k r.0 a b (omega (arith, r.1)) r.2 (first_group t k h) g
          (λ e. let z : leader t k ≡ h' = same_first t k r.0 (sym (first_group t k h) ∙ e ∙ g) ∙ r.3 in omega arith)),
      uncrossed_nests t u n (suc k) (omega arith),
    )

nested_at : (t : List Crossing) (n j k : ℕ) → j + n ≡ k → k < length t → Nested j (drop j (firsts t)) → (h : ℕ) → leader t k < h → h < k → within h (drop (suc k) (firsts t)) ≡ false
nested_at t zero j k e l m =
    let p : j ≡ k = omega arith in
    subst (λ (x : ℕ). Nested x (drop x (firsts t)) → (h : ℕ) → leader t k < h → h < k → within h (drop (suc k) (firsts t)) ≡ false) (sym p)
    (λ q. (subst (Nested k) (drop_firsts t k l) q).0) m
nested_at t (suc n) j k e l m = nested_at t n (suc j) k (omega arith) l (subst (Nested j) (drop_firsts t j (omega arith)) m).1

nests_uncrossed : (t : List Crossing) → Nested 0 (firsts t) → Uncrossed t
nests_uncrossed t m a b c d ab bc cd h p q n =
    let la = first_le t a (omega arith) in
    let lb = first_le t b (omega arith) in
    let g : leader t a ≡ leader t c = same_first t a c p in
    let k : leader t b ≡ leader t d = same_first t b d q in
    elim (cases_order (leader t a) (leader t b)) [
      | inl e ↦ n (same_group t a b (omega arith) (omega arith) e)
      | inr s ↦ elim s [
        | inl x ↦ absurd (true≢false
            (sym (sooner t (leader t b) (suc c) d (omega arith) h (sym k)) ∙ nested_at t c 0 c (omega arith) (omega arith) m (leader t b) (omega arith) (omega arith)))
        | inr y ↦ absurd (true≢false
            (sym (sooner t (leader t a) (suc b) c (omega arith) (omega arith) (sym g)) ∙ nested_at t b 0 b (omega arith) (omega arith) m (leader t a) (omega arith) (omega arith)))
      ]
    ]

pub stack_decides : (t : List Crossing) → (nests 0 (Some []) (firsts t) ≡ true) ↔ Uncrossed t
stack_decides t =
    let j = judges (firsts t) 0 [] (firsts_named t (length t) 0 (omega arith)) (record { falls = tt; same = λ g h. absurd (omega arith) }) in
    (λ e. nests_uncrossed t (j.0 e), λ u. j.1 (uncrossed_nests t u (length t) 0 (omega arith)))
