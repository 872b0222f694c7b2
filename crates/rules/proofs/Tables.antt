-- The drawing of a table that means one is tidy.
--   leader: the first record of the group of a record
--   Alike: two tables have as many records, on the same roads, the same ones together and the same ones with a vertex
--   table_tidy: where a table means a drawing, that drawing is tidy
--   drawings_tell_tables: the drawings of two tables are equal exactly when the tables are alike
use Rattle.std.proofs.Common.{◌≡◌, ℕ, zero, suc, ◌+◌, ◌-◌, ◌<◌, ◌≤◌, true, false, eqb, ◌≢◌, ◌↔◌, List, [], ◌∷◌, length, get_or, drop, sym, refl, ap, ◌∙◌, subst, inl, inr, arith, drop-cons}
use Rattle.std.proofs.lemmas.List.{length-drop, length-map, get_or-drop, get_or-map, drop_all, ext_get_or}
use Rattle.std.proofs.ByRecursion.{All-from_get_or}
use Rattle.std.proofs.lemmas.Bool.{false≢true, or_left, or_right, or_cases, eq-eqb, eqb-true, cases_eq, cases_Bool, cond_both}
use Rattle.symbols.specs.declared.symbols.Crossing.{Crossing}
use Rattle.rules.specs.Tables.{blank, at, size_of, mentions, Means, first_of, named, canonical}
use Rattle.rules.proofs.Marks.{Fine, Tidy}

pub mentions_from : (h : ℕ) (xs : List Crossing) → mentions h xs ≡ true → (i : ℕ) × (i < length xs) × ((get_or xs i blank).group ≡ h)
mentions_from h [] p = absurd (false≢true p)
mentions_from h (x ∷ xs) p =
    elim (or_cases (eqb h x.group) (mentions h xs) p) [
      | inl e ↦ (0, omega arith, sym (eqb-true h x.group e))
      | inr m ↦ (let r = mentions_from h xs m in (suc r.0, omega arith, r.2))
    ]

pub mentions_at : (h : ℕ) (xs : List Crossing) (i : ℕ) → i < length xs → (get_or xs i blank).group ≡ h → mentions h xs ≡ true
mentions_at h [] i l e = absurd (omega arith)
mentions_at h (x ∷ xs) zero l e = or_left _ _ (eq-eqb h x.group (sym e))
mentions_at h (x ∷ xs) (suc i) l e = or_right _ _ (mentions_at h xs i (omega arith) e)

pub never : (h : ℕ) (xs : List Crossing) → (mentions h xs ≡ true → ⊥) → mentions h xs ≡ false
never h xs n = elim (cases_Bool (mentions h xs)) [ inl t ↦ absurd (n t) | inr f ↦ f ]

-- the first_of of a group's first record

pub place_le : (g : ℕ) (t : List Crossing) (i : ℕ) → i < length t → (at t i).group ≡ g → first_of g t ≤ i
place_le g [] i h e = absurd (omega arith)
place_le g (c ∷ cs) zero h e = rw (eq-eqb g c.group (sym e)) (omega arith)
place_le g (c ∷ cs) (suc i) h e =
    cond_both (eqb g c.group) 0 (suc (first_of g cs)) (λ (x : ℕ). x ≤ suc i) (λ p. omega arith) (λ p. omega (arith, place_le g cs i (omega arith) e))

pub place_at : (g : ℕ) (t : List Crossing) (i : ℕ) → i < length t → (at t i).group ≡ g → (at t (first_of g t)).group ≡ g
place_at g [] i h e = absurd (omega arith)
place_at g (c ∷ cs) zero h e = rw (eq-eqb g c.group (sym e)) e
place_at g (c ∷ cs) (suc i) h e =
    cond_both (eqb g c.group) 0 (suc (first_of g cs)) (λ (x : ℕ). (at (c ∷ cs) x).group ≡ g)
    (λ p. sym (eqb-true g c.group p)) (λ p. place_at g cs i (omega arith) e)

-- the size of a group

size_mono : (g : ℕ) (c : Crossing) (cs : List Crossing) → size_of g cs ≤ size_of g (c ∷ cs)
size_mono g c cs = cond_both (eqb g c.group) _ _ (λ (x : ℕ). size_of g cs ≤ x) (λ p. omega arith) (λ p. omega arith)

size_here : (g : ℕ) (c : Crossing) (cs : List Crossing) → c.group ≡ g → size_of g (c ∷ cs) ≡ suc (size_of g cs)
size_here g c cs e = rw (eq-eqb g c.group (sym e))

size_one : (g : ℕ) (t : List Crossing) (i : ℕ) → i < length t → (at t i).group ≡ g → 1 ≤ size_of g t
size_one g [] i h e = absurd (omega arith)
size_one g (c ∷ cs) zero h e = omega (arith, size_here g c cs e)
size_one g (c ∷ cs) (suc i) h e = omega (arith, size_mono g c cs, size_one g cs i (omega arith) e)

pub size_two : (g : ℕ) (t : List Crossing) (i j : ℕ) → i < j → j < length t → (at t i).group ≡ g → (at t j).group ≡ g → 2 ≤ size_of g t
size_two g [] i j k h e f = absurd (omega arith)
size_two g (c ∷ cs) i zero k h e f = absurd (omega arith)
size_two g (c ∷ cs) zero (suc j) k h e f = omega (arith, size_here g c cs e, size_one g cs j (omega arith) f)
size_two g (c ∷ cs) (suc i) (suc j) k h e f = omega (arith, size_mono g c cs, size_two g cs i j (omega arith) (omega arith) e f)

size_three : (g : ℕ) (t : List Crossing) (i j k : ℕ) → i < j → j < k → k < length t → (at t i).group ≡ g → (at t j).group ≡ g → (at t k).group ≡ g → 3 ≤ size_of g t
size_three g [] i j k l m h e f d = absurd (omega arith)
size_three g (c ∷ cs) i zero k l m h e f d = absurd (omega arith)
size_three g (c ∷ cs) i (suc j) zero l m h e f d = absurd (omega arith)
size_three g (c ∷ cs) zero (suc j) (suc k) l m h e f d = omega (arith, size_here g c cs e, size_two g cs j k (omega arith) (omega arith) f d)
size_three g (c ∷ cs) (suc i) (suc j) (suc k) l m h e f d =
    omega (arith, size_mono g c cs, size_three g cs i j k (omega arith) (omega arith) (omega arith) e f d)

pub size_from : (g : ℕ) (t : List Crossing) → 1 ≤ size_of g t → (i : ℕ) × (i < length t) × ((at t i).group ≡ g)
size_from g [] h = absurd (omega arith)
size_from g (c ∷ cs) h =
    elim (cases_Bool (eqb g c.group)) [
      | inl p ↦ (0, omega arith, sym (eqb-true g c.group p))
      | inr p ↦ (let r = size_from g cs (rw p at h) in (suc r.0, omega arith, r.2))
    ]

-- a group of two has another one
other : (g : ℕ) (t : List Crossing) (i : ℕ) → 2 ≤ size_of g t → (j : ℕ) × (j < length t) × ((at t j).group ≡ g) × (j ≢ i)
other g [] i h = absurd (omega arith)
other g (c ∷ cs) i h =
    elim (cases_Bool (eqb g c.group)) [
      | inl p ↦ first p i
      | inr p ↦ (let r = other g cs (i - 1) (rw p at h) in (suc r.0, omega arith, r.2, λ e. r.3 (omega arith)))
    ]
  where
    first : eqb g c.group ≡ true → (i : ℕ) → (j : ℕ) × (j < length (c ∷ cs)) × ((at (c ∷ cs) j).group ≡ g) × (j ≢ i)
    first p zero = let r = size_from g cs (omega (arith, size_here g c cs (sym (eqb-true g c.group p)))) in (suc r.0, omega arith, r.2, omega arith)
    first p (suc i) = (0, omega arith, sym (eqb-true g c.group p), omega arith)

-- The drawing of a table, by numbers.

abbrev pub leader : List Crossing → ℕ → ℕ
leader t i = first_of (at t i).group t

pub canonical_at : (t : List Crossing) (i : ℕ) → i < length t → get_or (canonical t) i blank ≡ named t (at t i)
canonical_at t i h = get_or-map (named t) t i blank blank h

pub length_canonical : (t : List Crossing) → length (canonical t) ≡ length t
length_canonical t = length-map t (named t)

pub first_le : (t : List Crossing) (i : ℕ) → i < length t → leader t i ≤ i
first_le t i h = place_le (at t i).group t i h refl

pub first_group : (t : List Crossing) (i : ℕ) → i < length t → (at t (leader t i)).group ≡ (at t i).group
first_group t i h = place_at (at t i).group t i h refl

pub same_group : (t : List Crossing) (i j : ℕ) → i < length t → j < length t → leader t i ≡ leader t j → (at t i).group ≡ (at t j).group
same_group t i j h l e = sym (first_group t i h) ∙ ap (λ (x : ℕ). (at t x).group) e ∙ first_group t j l

pub same_first : (t : List Crossing) (i j : ℕ) → (at t i).group ≡ (at t j).group → leader t i ≡ leader t j
same_first t i j e = ap (λ (g : ℕ). first_of g t) e

later : (t : List Crossing) (h m : ℕ) → mentions h (drop m (canonical t)) ≡ true → (j : ℕ) × (m ≤ j) × (j < length t) × (leader t j ≡ h)
later t h m p =
    let r = mentions_from h (drop m (canonical t)) p in
    let l : m + r.0 < length t = omega (arith, r.1, length-drop m (canonical t), length_canonical t) in
    (m + r.0, omega arith, l, sym (ap (λ (x : Crossing). x.group) (get_or-drop m (canonical t) r.0 blank ∙ canonical_at t (m + r.0) l)) ∙ r.2)

sooner : (t : List Crossing) (h m j : ℕ) → m ≤ j → j < length t → leader t j ≡ h → mentions h (drop m (canonical t)) ≡ true
sooner t h m j a b e =
    let z : m + (j - m) ≡ j = omega arith in
    mentions_at h (drop m (canonical t)) (j - m) (omega (arith, length-drop m (canonical t), length_canonical t))
    (ap (λ (x : Crossing). x.group) (get_or-drop m (canonical t) (j - m) blank ∙ ap (λ (x : ℕ). get_or (canonical t) x blank) z ∙ canonical_at t j b) ∙ e)

module _ (t : List Crossing) (m : Means t) where
  fine : (r k : ℕ) → k < length t → r ≤ (at t k).road → Fine r k (named t (at t k)) (drop (suc k) (canonical t))
  fine r k h l = record {
    low = l;
    three = m.roads.0 k h;
    named = elim (cases_eq (leader t k) k) [
      | inl e ↦ inl e
      | inr n ↦ inr (
        omega (arith, first_le t k h),
        never k _ (λ p.
            let r = later t k (suc k) p in
            n (same_first t k r.0 (ap (λ (x : ℕ). (at t x).group) (sym r.3) ∙ first_group t r.0 r.2) ∙ r.3)),
      )
    ];
    nested = λ h' a b. never h' _ (λ p.
        let r = later t h' (suc k) p in
        let g : (at t h').group ≡ (at t r.0).group = ap (λ (x : ℕ). (at t x).group) (sym r.3) ∙ first_group t r.0 r.2 in
        m.uncrossed (leader t k) h' k r.0 a b (omega (arith, r.1)) r.2 (first_group t k h) g
        (λ e. let z : leader t k ≡ h' = same_first t k r.0 (sym (first_group t k h) ∙ e ∙ g) ∙ r.3 in omega arith));
    agree = All-from_get_or _ (drop (suc k) (canonical t)) blank (λ i b e.
        let j : ℕ = suc k + i in
        let c : j < length t = omega (arith, length-drop (suc k) (canonical t), length_canonical t) in
        let q = get_or-drop (suc k) (canonical t) i blank ∙ canonical_at t j c in
        ap (λ (x : Crossing). x.vertex) q ∙ m.flags j k c h (same_group t j k c h (sym (ap (λ (x : Crossing). x.group) q) ∙ e)));
    opened = λ v e.
        (let r = other (at t k).group t k (omega (arith, m.pairs k h v)) in
        let f : leader t r.0 ≡ k = same_first t r.0 k r.2 ∙ e in
        sooner t k (suc k) r.0 (omega (arith, first_le t r.0 r.1, r.3)) r.1 f);
    closed = λ v a. never (leader t k) _ (λ p.
        let r = later t (leader t k) (suc k) p in
        let g = same_group t r.0 k r.2 h r.3 in
        omega (arith, m.pairs k h v, size_three (at t k).group t (leader t k) k r.0 a r.1 r.2 (first_group t k h) refl g));
  }

  tidy : (n k r : ℕ) → k + n ≡ length t → (k < length t → r ≤ (at t k).road) → Tidy r k (drop k (canonical t))
  tidy zero k r e l = subst (Tidy r k) (sym (drop_all k (canonical t) (omega (arith, length_canonical t)))) tt
  tidy (suc n) k r e l =
      let h : k < length t = omega arith in
      let c : k < length (canonical t) = omega (arith, length_canonical t) in
      subst (Tidy r k) (sym (drop-cons (canonical t) k blank c ∙ ap (λ (x : Crossing). x ∷ drop (suc k) (canonical t)) (canonical_at t k h)))
      (fine r k h (l h), tidy n (suc k) (at t k).road (omega arith) (λ b. m.roads.1 k (suc k) (omega arith) b))

  pub table_tidy : Tidy 0 0 (canonical t)
  table_tidy = tidy (length t) 0 0 (omega arith) (λ b. omega arith)

-- What tells tables apart.

pub record Alike (s t : List Crossing) : Type 0 where
  pub count : length s ≡ length t
  pub roads : (i : ℕ) → i < length s → (at s i).road ≡ (at t i).road
  pub groups : (i j : ℕ) → i < length s → j < length s → ((at s i).group ≡ (at s j).group) ↔ ((at t i).group ≡ (at t j).group)
  pub flags : (i : ℕ) → i < length s → (at s i).vertex ≡ (at t i).vertex

alike_first : (s t : List Crossing) → Alike s t → (i : ℕ) → i < length s → leader t i ≤ leader s i
alike_first s t a i h =
    let l = first_le s i h in
    place_le (at t i).group t (leader s i) (omega (arith, a.count))
    ((a.groups (leader s i) i (omega arith) h).0 (first_group s i h))

alike_back : (s t : List Crossing) → Alike s t → Alike t s
alike_back s t a = record {
  count = sym a.count;
  roads = λ i h. sym (a.roads i (omega (arith, a.count)));
  groups = λ i j h l. (let e = a.groups i j (omega (arith, a.count)) (omega (arith, a.count)) in (e.1, e.0));
  flags = λ i h. sym (a.flags i (omega (arith, a.count)));
}

pub drawings_tell_tables : (s t : List Crossing) → (canonical s ≡ canonical t) ↔ Alike s t
drawings_tell_tables s t = (there, back)
  where
    there : canonical s ≡ canonical t → Alike s t
    there e =
        let n : length s ≡ length t = sym (length_canonical s) ∙ ap length e ∙ length_canonical t in
        let same : (i : ℕ) → i < length s → named s (at s i) ≡ named t (at t i) =
        λ i h. sym (canonical_at s i h) ∙ ap (λ (x : List Crossing). get_or x i blank) e ∙ canonical_at t i (omega arith) in
        let firsts : (i : ℕ) → i < length s → leader s i ≡ leader t i = λ i h. ap (λ (x : Crossing). x.group) (same i h) in
        record {
          count = n;
          roads = λ i h. ap (λ (x : Crossing). x.road) (same i h);
          groups = λ i j h l. (
            λ p. same_group t i j (omega arith) (omega arith) (sym (firsts i h) ∙ same_first s i j p ∙ firsts j l),
            λ p. same_group s i j h l (firsts i h ∙ same_first t i j p ∙ sym (firsts j l)),
          );
          flags = λ i h. ap (λ (x : Crossing). x.vertex) (same i h);
        }

    back : Alike s t → canonical s ≡ canonical t
    back a =
        let n = length_canonical s in
        ext_get_or blank (canonical s) (canonical t) (n ∙ a.count ∙ sym (length_canonical t))
        (λ i h.
        let l : i < length s = omega arith in
        let b = alike_back s t a in
        let f : leader s i ≡ leader t i = omega (arith, alike_first s t a i l, alike_first t s b i (omega (arith, a.count))) in
        let r = a.roads i l in
        let v = a.flags i l in
        let e : named s (at s i) ≡ named t (at t i) = λ x. record { road = r x; group = f x; vertex = v x } in
        canonical_at s i l ∙ e ∙ sym (canonical_at t i (omega (arith, a.count))))
