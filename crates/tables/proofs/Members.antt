-- The groups of a table by the library's words.
--   first_found: the first record of a group
--   size_by: how many records a group has
--   firsts_more: the first record of one record's group more
--   last_more, goes_on_at: marking the last record of each group, and what that tells
--   first_told: the first record of a record's group, as it was written
--   firsts_low: a group's first record is not behind any of its records
--   goes_on_told: whether another record of its group follows a record, by the first records that were written
use Rattle.std.proofs.Common.{◌≡◌, ℕ, zero, suc, ◌+◌, ◌-◌, ◌<◌, ◌≤◌, ◌≢◌, ltb, None, Some, Option, MatchOption, unwrap_or, List, [], ◌∷◌, ◌++◌, map, length, get_or, take, drop, set, filter, count_by, ◌==◌, sym, refl, ap, ◌∙◌, inl, inr, arith}
use Rattle.std.proofs.lemmas.List.{map-append, take_more, length-drop, get_or-drop, get_or-set_same, get_or-set_other}
use Rattle.std.proofs.lemmas.List.Sums.{length-filter}
use Rattle.std.proofs.lemmas.Bool.{eq-eqb, ne_eqb, lt-ltb, le-ltb, cases_eq, cases_lt}
use Rattle.symbols.specs.declared.symbols.Crossing.{Crossing}
use Rattle.rules.specs.Tables.{at, blank, first_of, size_of}
use Rattle.rules.proofs.Tables.{leader, first_le}
use Rattle.tables.specs.Nests.{within, firsts, firsts_in, Lasts}
use Rattle.tables.proofs.Stacks.{within_from, within_at, never, firsts_at, length_firsts}

first_none : (g : ℕ) (t : List Crossing) → ((k : ℕ) → k < length t → (at t k).group ≢ g) → first_of g t ≡ length t
first_none g [] n = refl
first_none g (x ∷ t) n = rw (ne_eqb g x.group (λ p. n 0 (omega arith) (sym p))) (ap suc (first_none g t (λ k h. n (suc k) (omega arith))))

first_some : (g : ℕ) (t : List Crossing) (i : ℕ) → i < length t → (at t i).group ≡ g → ((k : ℕ) → k < i → (at t k).group ≢ g) → first_of g t ≡ i
first_some g [] i h e n = absurd (omega arith)
first_some g (x ∷ t) zero h e n = rw (eq-eqb g x.group (sym e))
first_some g (x ∷ t) (suc i) h e n =
    rw (ne_eqb g x.group (λ p. n 0 (omega arith) (sym p))) (ap suc (first_some g t i (omega arith) e (λ k h. n (suc k) (omega arith))))

pub first_found : (g : ℕ) (t : List Crossing) (r : Option ℕ) → MatchOption r ((k : ℕ) → k < length t → (at t k).group ≢ g)
    (λ i. (i < length t) × ((at t i).group ≡ g) × ((k : ℕ) → k < i → (at t k).group ≢ g)) → unwrap_or r (length t) ≡ first_of g t
first_found g t None f = sym (first_none g t f)
first_found g t (Some i) f = sym (first_some g t i f.0 f.1 f.2)

size_filter : (g : ℕ) (t : List Crossing) → length (filter (λ (c : Crossing). c.group == g) t) ≡ size_of g t
size_filter g [] = refl
size_filter g (x ∷ t) =
    elim (cases_eq g x.group) [
      | inl e ↦ rw (eq-eqb x.group g (sym e), eq-eqb g x.group e) (ap suc (size_filter g t))
      | inr e ↦ rw (ne_eqb x.group g (λ p. e (sym p)), ne_eqb g x.group e) (size_filter g t)
    ]

pub size_by : (g : ℕ) (t : List Crossing) → count_by (λ (c : Crossing). c.group == g) t ≡ size_of g t
size_by g t = sym (length-filter (λ (c : Crossing). c.group == g) t) ∙ size_filter g t

pub firsts_more : (t : List Crossing) (k : ℕ) → k < length t → map (firsts_in t) (take (k + 1) t) ≡ map (firsts_in t) (take k t) ++ leader t k ∷ []
firsts_more t k h = ap (map (firsts_in t)) (take_more t k blank h) ∙ map-append (firsts_in t) (take k t) (at t k ∷ [])

pub last_more : (xs lasts : List ℕ) (i g : ℕ) → g ≡ get_or xs i 0 → g < length lasts → Lasts xs lasts i → Lasts xs (set lasts g i) (i + 1)
last_more xs lasts i g e h v j l =
    elim (cases_eq (get_or xs j 0) g) [
      | inl p ↦
          (let z : get_or (set lasts g i) (get_or xs j 0) 0 ≡ i = ap (λ (x : ℕ). get_or (set lasts g i) x 0) p ∙ get_or-set_same lasts g i 0 h in
          (omega arith, omega arith, ap (λ (x : ℕ). get_or xs x 0) z ∙ sym (p ∙ e)))
      | inr n ↦
          (let b : j < i = elim (cases_eq j i) [ inl q ↦ absurd (n (ap (λ (x : ℕ). get_or xs x 0) q ∙ sym e)) | inr q ↦ omega arith ] in
          let z : get_or (set lasts g i) (get_or xs j 0) 0 ≡ get_or lasts (get_or xs j 0) 0 = get_or-set_other lasts g (get_or xs j 0) i 0 n in
          let w = v j b in
          (omega (arith, w.0), omega (arith, w.1), ap (λ (x : ℕ). get_or xs x 0) z ∙ w.2))
    ]

-- a number stands again further on exactly where it stands last there
pub goes_on_at : (xs lasts : List ℕ) (k : ℕ) → k < length xs → Lasts xs lasts (length xs) → ltb k (get_or lasts (get_or xs k 0) 0) ≡ within (get_or xs k 0) (drop (k + 1) xs)
goes_on_at xs lasts k h v =
    let m = get_or lasts (get_or xs k 0) 0 in
    let w = v k h in
    elim (cases_lt k m) [
      | inl l ↦
          (let z : k + 1 + (m - (k + 1)) ≡ m = omega arith in
          lt-ltb k m l
          ∙ sym (within_at (get_or xs k 0) (drop (k + 1) xs) (m - (k + 1)) (omega (arith, length-drop (k + 1) xs, w.1))
          (get_or-drop (k + 1) xs (m - (k + 1)) 0 ∙ ap (λ (x : ℕ). get_or xs x 0) z ∙ w.2)))
      | inr l ↦
          le-ltb k m l
          ∙ sym (never (get_or xs k 0) (drop (k + 1) xs) (λ e.
          let r = within_from (get_or xs k 0) (drop (k + 1) xs) e in
          let j : ℕ = k + 1 + r.0 in
          let q : get_or xs j 0 ≡ get_or xs k 0 = sym (get_or-drop (k + 1) xs r.0 0) ∙ r.2 in
          let u = v j (omega (arith, r.1, length-drop (k + 1) xs)) in
          let s : get_or lasts (get_or xs j 0) 0 ≡ m = ap (λ (x : ℕ). get_or lasts x 0) q in
          omega (arith, u.0, s)))
    ]

pub first_told : (t : List Crossing) (xs : List ℕ) (k : ℕ) → xs ≡ firsts t → k < length t → get_or xs k 0 ≡ leader t k
first_told t xs k e h = ap (λ (x : List ℕ). get_or x k 0) e ∙ firsts_at t k h

pub firsts_low : (t : List Crossing) (xs : List ℕ) → xs ≡ firsts t → (k : ℕ) → k < length xs → get_or xs k 0 ≤ k
firsts_low t xs e k h =
    let l : k < length t = omega (arith, ap length e, length_firsts t) in
    omega (arith, first_told t xs k e l, first_le t k l)

pub goes_on_told : (t : List Crossing) (xs : List ℕ) (k : ℕ) → xs ≡ firsts t → k < length t → within (get_or xs k 0) (drop (k + 1) xs) ≡ within (leader t k) (drop (k + 1) (firsts t))
goes_on_told t xs k e h = ap (λ (x : List ℕ). within (get_or x k 0) (drop (k + 1) x)) e ∙ ap (λ (x : ℕ). within x (drop (k + 1) (firsts t))) (firsts_at t k h)
