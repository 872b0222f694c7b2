-- The rules of a table, as tests that compute and as statements, say the same.
--   sorted_rising: roads that never fall from one record to the next rise over all records
--   roads_tell, flags_tell, pairs_tell, cross_tell: each test fails exactly where its statement holds
--   rules_are_told: a table has no fault exactly when it means a drawing
use Rattle.std.proofs.Common.{◌≡◌, ℕ, zero, suc, ◌<◌, ◌≤◌, Bool, true, false, cond, not, ◌&&◌, ◌||◌, eqb, ltb, ◌↔◌, List, [], ◌∷◌, length, Some, None, Decides, sym, refl, ap, ◌∙◌, inl, inr, arith}
use mathlib.Core.Bool.{beq}
use Rattle.std.proofs.lemmas.Bool.{true≢false, false≢true, or_parts, or_from, ltb-false, le-ltb, eq-eqb, eqb-true, cases_Bool, cases_order}
use Rattle.std.proofs.lemmas.Bool.Decides.{Decides-not, Decides-and, Decides-eqb, Decides-below_or, not_from_Decides}
use Rattle.symbols.specs.declared.refusals.Refusal.TheVariants.{Roads, Flags, Pairs, Crossed}
use Rattle.symbols.specs.declared.symbols.Crossing.{Crossing}
use Rattle.rules.specs.Tables.{at, size_of, roads_break, some_below, together, flags_break, pairs_break, groups_cross, Rising, Flagged, Paired, Uncrossed}
use Rattle.rules.specs.Statements.{RulesAreTold}
use Rattle.rules.proofs.Counts.{Sorted, sorted}

some_decides : (p : ℕ → Bool) (P : ℕ → Type 0) → ((k : ℕ) → Decides (p k) (P k)) → (n : ℕ) → Decides (some_below n p) ((k : ℕ) × (k < n) × P k)
some_decides p P each n = Decides-below_or p P (λ m. some_below m p) each refl (λ m. refl) n

decides_beq : (x y : Bool) → Decides (beq x y) (x ≡ y)
decides_beq true true = (λ e. refl, λ e. refl)
decides_beq true false = (λ e. absurd (false≢true e), λ e. absurd (true≢false e))
decides_beq false true = (λ e. absurd (false≢true e), λ e. absurd (false≢true e))
decides_beq false false = (λ e. refl, λ e. refl)

decides_self : (x : Bool) → Decides x (x ≡ true)
decides_self x = (λ e. e, λ e. e)

-- a test is false where its statement does not hold, and the other way round
fails : {P : Type 0} (r : Bool) → Decides r P → (P → ⊥) → r ≡ false
fails r d n = elim (cases_Bool r) [ inl t ↦ absurd (n (d.0 t)) | inr f ↦ f ]

-- roads

low : (t : List Crossing) (r i : ℕ) → Sorted r t → i < length t → (r ≤ (at t i).road) × ((at t i).road ≤ 3)
low [] r i s h = absurd (omega arith)
low (c ∷ cs) r zero s h = (s.0, s.1)
low (c ∷ cs) r (suc i) s h = (let x = low cs c.road i s.2 (omega arith) in (omega (arith, x.0, s.0), x.1))

rises : (t : List Crossing) (r i j : ℕ) → Sorted r t → i < j → j < length t → (at t i).road ≤ (at t j).road
rises [] r i j s l h = absurd (omega arith)
rises (c ∷ cs) r i zero s l h = absurd (omega arith)
rises (c ∷ cs) r zero (suc j) s l h = (low cs c.road j s.2 (omega arith)).0
rises (c ∷ cs) r (suc i) (suc j) s l h = rises cs c.road i j s.2 (omega arith) (omega arith)

pub sorted_rising : (t : List Crossing) (r : ℕ) → Sorted r t → Rising t
sorted_rising t r s = (λ i h. (low t r i s h).1, λ i j l h. rises t r i j s l h)

roads_sorted : (t : List Crossing) (r : ℕ) → roads_break r t ≡ false → Sorted r t
roads_sorted [] r e = tt
roads_sorted (c ∷ cs) r e =
    let a = or_parts (ltb 3 c.road || ltb c.road r) (roads_break c.road cs) e in
    let b = or_parts (ltb 3 c.road) (ltb c.road r) a.0 in
    (ltb-false c.road r b.1, ltb-false 3 c.road b.0, roads_sorted cs c.road a.1)

sorted_roads : (t : List Crossing) (r : ℕ) → Sorted r t → roads_break r t ≡ false
sorted_roads [] r s = refl
sorted_roads (c ∷ cs) r s =
    or_from _ _ (or_from _ _ (le-ltb 3 c.road s.1) (le-ltb c.road r s.0)) (sorted_roads cs c.road s.2)

pub roads_tell : (t : List Crossing) → (roads_break 0 t ≡ false) ↔ Rising t
roads_tell t = (
  λ e. sorted_rising t 0 (roads_sorted t 0 e),
  λ r. sorted_roads t 0 (sorted t 0 (λ i h. omega arith) r),
)

-- flags

flags_decide : (t : List Crossing) → Decides (flags_break t) ((j : ℕ) × (j < length t) × ((i : ℕ) × (i < j) × (((at t i).group ≡ (at t j).group) × ((at t i).vertex ≡ (at t j).vertex → ⊥))))
flags_decide t =
    some_decides _ _ (λ j. some_decides _ _ (λ i.
    Decides-and (together t i j) _ (Decides-eqb (at t i).group (at t j).group) (Decides-not (beq (at t i).vertex (at t j).vertex) (decides_beq (at t i).vertex (at t j).vertex))) j) (length t)

agree : (t : List Crossing) (i j : ℕ) → flags_break t ≡ false → i < j → j < length t → (at t i).group ≡ (at t j).group → (at t i).vertex ≡ (at t j).vertex
agree t i j e l h g =
    elim (cases_Bool (beq (at t i).vertex (at t j).vertex)) [
      | inl b ↦ (decides_beq (at t i).vertex (at t j).vertex).0 b
      | inr b ↦ absurd (not_from_Decides (flags_break t) (flags_decide t) e (j, h, (i, l, (g, λ q. false≢true (sym b ∙ (decides_beq (at t i).vertex (at t j).vertex).1 q)))))
    ]

pub flags_tell : (t : List Crossing) → (flags_break t ≡ false) ↔ Flagged t
flags_tell t = (
  λ e i j h l g.
      elim (cases_order i j) [
        | inl p ↦ ap (λ (x : ℕ). (at t x).vertex) p
        | inr o ↦ elim o [ inl a ↦ agree t i j e a l g | inr b ↦ sym (agree t j i e b h (sym g)) ]
      ],
  λ f. fails (flags_break t) (flags_decide t) (λ x. x.2.2.1 (f x.2.0 x.0 (omega (arith, x.1, x.2.1)) x.1 x.2.2.0)),
)

-- pairs

pairs_decide : (t : List Crossing) → Decides (pairs_break t) ((i : ℕ) × (i < length t) × (((at t i).vertex ≡ true → ⊥) × (size_of (at t i).group t ≡ 2 → ⊥)))
pairs_decide t =
    some_decides _ _ (λ i.
    Decides-and (not (at t i).vertex) _ (Decides-not (at t i).vertex (decides_self (at t i).vertex))
    (Decides-not (eqb (size_of (at t i).group t) 2) (Decides-eqb (size_of (at t i).group t) 2))) (length t)

pub pairs_tell : (t : List Crossing) → (pairs_break t ≡ false) ↔ Paired t
pairs_tell t = (
  λ e i h v.
      elim (cases_Bool (eqb (size_of (at t i).group t) 2)) [
        | inl b ↦ eqb-true (size_of (at t i).group t) 2 b
        | inr b ↦ absurd (not_from_Decides (pairs_break t) (pairs_decide t) e (i, h, (λ q. false≢true (sym v ∙ q), λ q. false≢true (sym b ∙ eq-eqb (size_of (at t i).group t) 2 q))))
      ],
  λ f. fails (pairs_break t) (pairs_decide t) (λ x.
      elim (cases_Bool (at t x.0).vertex) [ inl v ↦ x.2.0 v | inr v ↦ x.2.1 (f x.0 x.1 v) ]),
)

-- crossing groups

cross_decide : (t : List Crossing) → Decides (groups_cross t) ((d : ℕ) × (d < length t) × ((c : ℕ) × (c < d) × ((b : ℕ) × (b < c) × ((a : ℕ) × (a < b) × ((((at t a).group ≡ (at t c).group) × ((at t b).group ≡ (at t d).group)) × ((at t a).group ≡ (at t b).group → ⊥))))))
cross_decide t =
    some_decides _ _ (λ d. some_decides _ _ (λ c. some_decides _ _ (λ b. some_decides _ _ (λ a.
    Decides-and (together t a c && together t b d) _
    (Decides-and (together t a c) (together t b d) (Decides-eqb (at t a).group (at t c).group) (Decides-eqb (at t b).group (at t d).group))
    (Decides-not (together t a b) (Decides-eqb (at t a).group (at t b).group))) b) c) d) (length t)

pub cross_tell : (t : List Crossing) → (groups_cross t ≡ false) ↔ Uncrossed t
cross_tell t = (
  λ e a b c d l m n h p q r. not_from_Decides (groups_cross t) (cross_decide t) e (d, h, (c, n, (b, m, (a, l, ((p, q), r))))),
  λ u. fails (groups_cross t) (cross_decide t) (λ x.
      let y = x.2 in
      let z = y.2 in
      let v = z.2 in
      u v.0 z.0 y.0 x.0 v.1 z.1 y.1 x.1 v.2.0.0 v.2.0.1 v.2.1),
)

-- all rules

some_none : {A : Type 0} (x : A) → Some x ≡ None → ⊥
some_none x e = (let z : ◌≡◌ {A = ℕ} 0 1 = cc in omega arith)

four : (a b c d : Bool) → cond a (Some Roads) (cond b (Some Flags) (cond c (Some Pairs) (cond d (Some Crossed) None))) ≡ None → (a ≡ false) × (b ≡ false) × (c ≡ false) × (d ≡ false)
four true b c d e = absurd (some_none _ e)
four false true c d e = absurd (some_none _ e)
four false false true d e = absurd (some_none _ e)
four false false false true e = absurd (some_none _ e)
four false false false false e = (refl, refl, refl, refl)

pub rules_are_told : RulesAreTold
rules_are_told t = (
  λ e.
      let f = four (ltb 60 (length t) || roads_break 0 t) (flags_break t) (pairs_break t) (groups_cross t) e in
      let o = or_parts (ltb 60 (length t)) (roads_break 0 t) f.0 in
      record {
        few = ltb-false 60 (length t) o.0;
        roads = (roads_tell t).0 o.1;
        flags = (flags_tell t).0 f.1;
        pairs = (pairs_tell t).0 f.2;
        uncrossed = (cross_tell t).0 f.3;
      },
  λ m.
      rw (
        or_from _ _ (le-ltb 60 (length t) m.few) ((roads_tell t).1 m.roads),
        (flags_tell t).1 m.flags,
        (pairs_tell t).1 m.pairs,
        (cross_tell t).1 m.uncrossed,
      ),
)
