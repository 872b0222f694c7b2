-- Crossing numbers and places of roads answer each other.
--   crossing_is: the crossing of a road before which as many of it stand is the one at that place
--   crossing_none: past a road's last place there is none
--   crossing_found: what stands at a place is on the road, at that place
use Rattle.std.proofs.Common.{◌≡◌, ℕ, zero, suc, ◌<◌, ◌≤◌, eqb, List, [], ◌∷◌, length, take, Some, None, Option, sym, refl, ap, ◌∙◌, subst, inl, inr, arith}
use Rattle.std.proofs.lemmas.Bool.{eq-eqb, eqb-true, lt-ltb, cases_Bool, cases_lt, le-ltb}
use Rattle.symbols.specs.declared.symbols.Crossing.{Crossing}
use Rattle.rules.specs.Tables.{at}
use Rattle.rules.specs.Crossings.{count_on, place_of, crossing_at, one_on}
use Rattle.rules.specs.Statements.{PlacesComeBack}

pub crossing_is : (d : List Crossing) (q p i : ℕ) → i < length d → q ≡ (at d i).road → count_on q (take i d) ≡ p → crossing_at d q p ≡ Some i
crossing_is [] q p i h e n = absurd (omega arith)
crossing_is (c ∷ d) q zero zero h e n = rw (eq-eqb q c.road e)
crossing_is (c ∷ d) q (suc p) zero h e n = absurd (omega arith)
crossing_is (c ∷ d) q zero (suc i) h e n =
    elim (cases_Bool (eqb q c.road)) [
      | inl b ↦ (let z : suc (count_on q (take i d)) ≡ 0 = rw b at n in absurd (omega arith))
      | inr b ↦ (let z : count_on q (take i d) ≡ 0 = rw b at n in rw (b, crossing_is d q 0 i (omega arith) e z))
    ]
crossing_is (c ∷ d) q (suc p) (suc i) h e n =
    elim (cases_Bool (eqb q c.road)) [
      | inl b ↦ (let z : suc (count_on q (take i d)) ≡ suc p = rw b at n in rw (b, crossing_is d q p i (omega arith) e (omega arith)))
      | inr b ↦ (let z : count_on q (take i d) ≡ suc p = rw b at n in rw (b, crossing_is d q (suc p) i (omega arith) e z))
    ]

pub crossing_none : (d : List Crossing) (q p : ℕ) → count_on q d ≤ p → crossing_at d q p ≡ None
crossing_none [] q p h = refl
crossing_none (c ∷ d) q zero h =
    elim (cases_Bool (eqb q c.road)) [
      | inl b ↦ (let z : suc (count_on q d) ≤ 0 = rw b at h in absurd (omega arith))
      | inr b ↦ (let z : count_on q d ≤ 0 = rw b at h in rw (b, crossing_none d q 0 z))
    ]
crossing_none (c ∷ d) q (suc p) h =
    elim (cases_Bool (eqb q c.road)) [
      | inl b ↦ (let z : suc (count_on q d) ≤ suc p = rw b at h in rw (b, crossing_none d q p (omega arith)))
      | inr b ↦ (let z : count_on q d ≤ suc p = rw b at h in rw (b, crossing_none d q (suc p) z))
    ]

abbrev pub Found : List Crossing → ℕ → ℕ → ℕ → Type 0
Found d q p i = (i < length d) × (q ≡ (at d i).road) × (count_on q (take i d) ≡ p)

one_on_is : (o : Option ℕ) (i : ℕ) → one_on o ≡ Some i → (j : ℕ) × (o ≡ Some j) × (i ≡ suc j)
one_on_is None i e = (let z : ◌≡◌ {A = ℕ} 0 1 = cc in absurd (omega arith))
one_on_is (Some j) i e = (j, refl, (let q : i ≡ suc j = cc in q))

step : (c : Crossing) (d : List Crossing) (q p r i j : ℕ) → i ≡ suc j → count_on q (take (suc j) (c ∷ d)) ≡ p → Found d q r j → Found (c ∷ d) q p i
step c d q p r i j e n f =
    subst (λ (x : ℕ). Found (c ∷ d) q p x) (sym e) (omega (arith, f.0), f.1, n)

pub crossing_found : (d : List Crossing) (q p i : ℕ) → crossing_at d q p ≡ Some i → Found d q p i
crossing_found [] q p i e = (let z : ◌≡◌ {A = ℕ} 0 1 = cc in absurd (omega arith))
crossing_found (c ∷ d) q zero i e =
    elim (cases_Bool (eqb q c.road)) [
      | inl b ↦
          (let z : Some 0 ≡ Some i = rw b at e in
          let y : 0 ≡ i = cc in
          subst (λ (x : ℕ). Found (c ∷ d) q 0 x) y (omega arith, eqb-true q c.road b, refl))
      | inr b ↦
          (let o = one_on_is (crossing_at d q 0) i (rw b at e) in
          let f = crossing_found d q 0 o.0 o.1 in
          step c d q 0 0 i o.0 o.2 (rw b f.2) f)
    ]
crossing_found (c ∷ d) q (suc p) i e =
    elim (cases_Bool (eqb q c.road)) [
      | inl b ↦
          (let o = one_on_is (crossing_at d q p) i (rw b at e) in
          let f = crossing_found d q p o.0 o.1 in
          step c d q (suc p) p i o.0 o.2 (rw b (ap suc f.2)) f)
      | inr b ↦
          (let o = one_on_is (crossing_at d q (suc p)) i (rw b at e) in
          let f = crossing_found d q (suc p) o.0 o.1 in
          step c d q (suc p) (suc p) i o.0 o.2 (rw b f.2) f)
    ]

some_pair : (a b q p : ℕ) → ◌≡◌ {A = Option (ℕ × ℕ)} (Some (a, b)) (Some (q, p)) → (a ≡ q) × (b ≡ p)
some_pair a b q p e =
    let x : ◌≡◌ {A = ℕ × ℕ} (a, b) (q, p) = cc in
    (ap (λ (y : ℕ × ℕ). y.0) x, ap (λ (y : ℕ × ℕ). y.1) x)

place_found : (d : List Crossing) (i q p : ℕ) → place_of d i ≡ Some (q, p) → Found d q p i
place_found d i q p e =
    elim (cases_lt i (length d)) [
      | inl h ↦
          (let s = some_pair (at d i).road (count_on (at d i).road (take i d)) q p (rw (lt-ltb i (length d) h) at e) in
          (h, sym s.0, ap (λ (x : ℕ). count_on x (take i d)) (sym s.0) ∙ s.1))
      | inr h ↦
          (let s : ◌≡◌ {A = Option (ℕ × ℕ)} None (Some (q, p)) = rw (le-ltb i (length d) h) at e in
          let z : ◌≡◌ {A = ℕ} 0 1 = cc in
          absurd (omega arith))
    ]

pub places_come_back : PlacesComeBack
places_come_back d i q p = (
  λ e. let f = place_found d i q p e in crossing_is d q p i f.0 f.1 f.2,
  λ e.
      let f = crossing_found d q p i e in
      rw (lt-ltb i (length d) f.0, sym f.1, f.2),
)
