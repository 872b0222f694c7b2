-- Reading back: a tidy drawing, as a table, means itself.
--   itself: a group's first crossing is of the group
--   table_means, table_draws: as a table it means a drawing, which is itself
use Rattle.std.proofs.Common.{◌≡◌, ℕ, zero, suc, ◌+◌, ◌-◌, ◌<◌, ◌≤◌, Bool, true, false, eqb, ◌≢◌, List, [], ◌∷◌, length, get_or, drop, sym, refl, ap, ◌∙◌, subst, inl, inr, arith}
use Rattle.std.proofs.lemmas.List.{length-drop, get_or-drop, ext_get_or}
use Rattle.std.proofs.ByRecursion.{All-get_or}
use Rattle.std.proofs.lemmas.Bool.{true≢false, eqb-true, cases_eq, cases_lt, cases_Bool, cases_order}
use Rattle.symbols.specs.declared.symbols.Crossing.{Crossing}
use Rattle.rules.specs.Tables.{at, blank, size_of, mentions, Means, first_of, named, canonical}
use Rattle.rules.specs.Crossings.{group_at}
use Rattle.rules.proofs.Marks.{Fine, Tidy}
use Rattle.rules.proofs.Tables.{mentions_from, mentions_at, place_le, place_at, size_two, size_from, canonical_at, length_canonical}

-- a group of two has two records, one of three has three

two_from : (g : ℕ) (t : List Crossing) → 2 ≤ size_of g t → (a b : ℕ) × (a < b) × (b < length t) × ((at t a).group ≡ g) × ((at t b).group ≡ g)
two_from g [] h = absurd (omega arith)
two_from g (c ∷ cs) h =
    elim (cases_Bool (eqb g c.group)) [
      | inl p ↦ (let r = size_from g cs (omega (arith, rw p at h)) in (0, suc r.0, omega arith, omega arith, sym (eqb-true g c.group p), r.2))
      | inr p ↦ (let r = two_from g cs (rw p at h) in (suc r.0, suc r.1, omega arith, omega arith, r.4, r.5))
    ]

three_from : (g : ℕ) (t : List Crossing) → 3 ≤ size_of g t → (a b c : ℕ) × (a < b) × (b < c) × (c < length t) × ((at t a).group ≡ g) × ((at t b).group ≡ g) × ((at t c).group ≡ g)
three_from g [] h = absurd (omega arith)
three_from g (c ∷ cs) h =
    elim (cases_Bool (eqb g c.group)) [
      | inl p ↦ (let r = two_from g cs (omega (arith, rw p at h)) in (0, suc r.0, suc r.1, omega arith, omega arith, omega arith, sym (eqb-true g c.group p), r.4, r.5))
      | inr p ↦ (let r = three_from g cs (rw p at h) in (suc r.0, suc r.1, suc r.2, omega arith, omega arith, omega arith, r.6, r.7, r.8))
    ]

-- a tidy list, by numbers

tidy_at : (es : List Crossing) (r k i j : ℕ) → k + i ≡ j → Tidy r k es → i < length es → (q : ℕ) × Fine q j (get_or es i blank) (drop (suc i) es)
tidy_at [] r k i j p t h = absurd (omega arith)
tidy_at (e ∷ es) r k zero j p t h = (r, subst (λ (x : ℕ). Fine r x e es) (omega arith) t.0)
tidy_at (e ∷ es) r k (suc i) j p t h = tidy_at es e.road (suc k) i j (omega arith) t.1 (omega arith)

tidy_low : (es : List Crossing) (r k i : ℕ) → Tidy r k es → i < length es → r ≤ (get_or es i blank).road
tidy_low [] r k i t h = absurd (omega arith)
tidy_low (e ∷ es) r k zero t h = t.0.low
tidy_low (e ∷ es) r k (suc i) t h = omega (arith, t.0.low, tidy_low es e.road (suc k) i t.1 (omega arith))

tidy_rising : (es : List Crossing) (r k i j : ℕ) → Tidy r k es → i < j → j < length es → (get_or es i blank).road ≤ (get_or es j blank).road
tidy_rising [] r k i j t l h = absurd (omega arith)
tidy_rising (e ∷ es) r k i zero t l h = absurd (omega arith)
tidy_rising (e ∷ es) r k zero (suc j) t l h = tidy_low es e.road (suc k) j t.1 (omega arith)
tidy_rising (e ∷ es) r k (suc i) (suc j) t l h = tidy_rising es e.road (suc k) i j t.1 (omega arith) (omega arith)

after_mentions : (d : List Crossing) (g i j : ℕ) → i < j → j < length d → group_at d j ≡ g → mentions g (drop (suc i) d) ≡ true
after_mentions d g i j l h e =
    let z : suc i + (j - suc i) ≡ j = omega arith in
    mentions_at g (drop (suc i) d) (j - suc i) (omega (arith, length-drop (suc i) d))
    (ap (λ (x : Crossing). x.group) (get_or-drop (suc i) d (j - suc i) blank) ∙ ap (group_at d) z ∙ e)

mentioned_after : (d : List Crossing) (g i : ℕ) → mentions g (drop (suc i) d) ≡ true → (j : ℕ) × (i < j) × (j < length d) × (group_at d j ≡ g)
mentioned_after d g i m =
    let r = mentions_from g (drop (suc i) d) m in
    (suc i + r.0, omega arith, omega (arith, r.1, length-drop (suc i) d), sym (ap (λ (x : Crossing). x.group) (get_or-drop (suc i) d r.0 blank)) ∙ r.2)

abbrev flag_at : List Crossing → ℕ → Bool
flag_at d i = (get_or d i blank).vertex

module _ (d : List Crossing) (t : Tidy 0 0 d) where
  fine : (i : ℕ) → i < length d → (q : ℕ) × Fine q i (get_or d i blank) (drop (suc i) d)
  fine i h = tidy_at d 0 0 i i (omega arith) t h

  low : (i : ℕ) → i < length d → group_at d i ≤ i
  low i h = elim (fine i h).1.named [ inl e ↦ omega arith | inr p ↦ omega (arith, p.0) ]

  itself : (i : ℕ) → i < length d → group_at d (group_at d i) ≡ group_at d i
  itself i h =
      elim (cases_eq (group_at d i) i) [
        | inl e ↦ ap (group_at d) e
        | inr n ↦
            (let l : group_at d i < i = omega (arith, low i h) in
            elim (fine (group_at d i) (omega arith)).1.named [
              | inl e ↦ e
              | inr p ↦ absurd (true≢false (sym (after_mentions d (group_at d i) (group_at d i) i l h refl) ∙ p.1))
            ])
      ]

  flags_below : (i j : ℕ) → i < j → j < length d → group_at d j ≡ group_at d i → flag_at d j ≡ flag_at d i
  flags_below i j l h e =
      let z : suc i + (j - suc i) ≡ j = omega arith in
      let s : get_or (drop (suc i) d) (j - suc i) blank ≡ get_or d j blank = get_or-drop (suc i) d (j - suc i) blank ∙ ap (λ (x : ℕ). get_or d x blank) z in
      let a = All-get_or (λ (x : Crossing). x.group ≡ group_at d i → x.vertex ≡ flag_at d i) (drop (suc i) d) (j - suc i) blank (omega (arith, length-drop (suc i) d)) (fine i (omega arith)).1.agree in
      subst (λ (x : Crossing). x.group ≡ group_at d i → x.vertex ≡ flag_at d i) s a e

  flags : (i j : ℕ) → i < length d → j < length d → group_at d i ≡ group_at d j → flag_at d i ≡ flag_at d j
  flags i j h l e =
      elim (cases_order i j) [
        | inl p ↦ ap (flag_at d) p
        | inr q ↦ elim q [ inl a ↦ sym (flags_below i j a l (sym e)) | inr b ↦ flags_below j i b h e ]
      ]

  -- the group of a crossing without a vertex has two
  pair : (i : ℕ) → i < length d → flag_at d i ≡ false → size_of (group_at d i) d ≡ 2
  pair i h v =
      let g : ℕ = group_at d i in
      let l : g < length d = omega (arith, low i h) in
      let own : group_at d g ≡ g = itself i h in
      let j = mentioned_after d g g ((fine g l).1.opened (flags g i l h own ∙ v) own) in
      let two : 2 ≤ size_of g d = size_two g d g j.0 j.1 j.2 own j.3 in
      elim (cases_lt (size_of g d) 3) [
        | inl s ↦ omega arith
        | inr s ↦
            (let r = three_from g d s in
            let a = r.0 in
            let b = r.1 in
            let c = r.2 in
            let bn : b < length d = omega (arith, r.4, r.5) in
            let an : a < length d = omega (arith, r.3) in
            let no' = (fine b bn).1.closed (flags b i bn h r.7 ∙ v) (omega (arith, r.3, low a an, r.6, r.7)) in
            absurd (true≢false (sym (after_mentions d (group_at d b) b c r.4 r.5 (r.8 ∙ sym r.7)) ∙ no')))
      ]

  uncrossed : (a b c e : ℕ) → a < b → b < c → c < e → e < length d → group_at d a ≡ group_at d c → group_at d b ≡ group_at d e → group_at d a ≢ group_at d b → ⊥
  uncrossed a b c e ab bc ce h p q n =
      let la = low a (omega arith) in
      let lb = low b (omega arith) in
      elim (cases_lt (group_at d a) (group_at d b)) [
        | inl s ↦ absurd (true≢false
            (sym (after_mentions d (group_at d b) c e ce h (sym q)) ∙ (fine c (omega arith)).1.nested (group_at d b) (omega arith) (omega arith)))
        | inr s ↦ absurd (true≢false
            (sym (after_mentions d (group_at d a) b c bc (omega arith) (sym p)) ∙ (fine b (omega arith)).1.nested (group_at d a) (omega arith) (omega arith)))
      ]

  pub table_means : length d ≤ 60 → Means d
  table_means few = record {
    few = few;
    roads = (λ i h. (fine i h).1.three, λ i j a h. tidy_rising d 0 0 i j t a h);
    flags = flags;
    pairs = pair;
    uncrossed = uncrossed;
  }

  own_place : (i : ℕ) → i < length d → first_of (group_at d i) d ≡ group_at d i
  own_place i h =
      let g : ℕ = group_at d i in
      let l : g < length d = omega (arith, low i h) in
      let e : group_at d g ≡ g = itself i h in
      let le = place_le g d g l e in
      let p : first_of g d < length d = omega arith in
      let f : group_at d (first_of g d) ≡ g = place_at g d g l e in
      omega (arith, low (first_of g d) p)

  pub table_draws : canonical d ≡ d
  table_draws =
      ext_get_or blank (canonical d) d (length_canonical d)
      (λ i h.
      let l : i < length d = omega (arith, length_canonical d) in
      let f = own_place i l in
      let e : named d (at d i) ≡ at d i = λ x. record { road = (at d i).road; group = f x; vertex = (at d i).vertex } in
      canonical_at d i l ∙ e)
