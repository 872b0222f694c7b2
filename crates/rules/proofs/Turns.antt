-- Before and after a crossing in its group undo each other.
--   NoneIn: a function is nowhere a number, from a bound up to another
--   latest_is, latest_none, soonest_is, soonest_none: the latest and the soonest of a group, by where it is and is not
--   Last, Next: the last such place before a bound, the next one from a start on, or none
--   Back, Forth: one step in the circle of a group, and that the other step undoes it
--   crossings_turn: the steps undo each other and stay in the group
use Rattle.std.proofs.Common.{◌≡◌, ℕ, zero, suc, ◌+◌, ◌-◌, ◌<◌, ◌≤◌, ◌⊎◌, List, length, sym, refl, ap, ◌∙◌, subst, inl, inr, arith}
use Rattle.std.proofs.lemmas.Bool.{ne_eqb, eq-eqb, cases_eq}
use Rattle.symbols.specs.declared.symbols.Crossing.{Crossing}
use Rattle.rules.specs.Crossings.{group_at, latest, soonest, before, after}
use Rattle.rules.specs.Statements.{Turns}

-- f is g nowhere from a up to b
abbrev pub NoneIn : (ℕ → ℕ) → ℕ → ℕ → ℕ → Type 0
NoneIn f g a b = (m : ℕ) → a ≤ m → m < b → f m ≡ g → ⊥

pub latest_is : (f : ℕ → ℕ) (g z n j : ℕ) → j < n → f j ≡ g → NoneIn f g (suc j) n → latest f g z n ≡ j
latest_is f g z zero j h e no' = absurd (omega arith)
latest_is f g z (suc n) j h e no' =
    elim (cases_eq j n) [
      | inl p ↦ rw (eq-eqb (f n) g (ap f (sym p) ∙ e)) (sym p)
      | inr p ↦ rw (ne_eqb (f n) g (no' n (omega arith) (omega arith))) (latest_is f g z n j (omega arith) e (λ m a b. no' m a (omega arith)))
    ]

pub latest_none : (f : ℕ → ℕ) (g z n : ℕ) → NoneIn f g 0 n → latest f g z n ≡ z
latest_none f g z zero no' = refl
latest_none f g z (suc n) no' = rw (ne_eqb (f n) g (no' n (omega arith) (omega arith))) (latest_none f g z n (λ m a b. no' m a (omega arith)))

pub soonest_is : (f : ℕ → ℕ) (g z n s j : ℕ) → s ≤ j → j < s + n → f j ≡ g → NoneIn f g s j → soonest f g z n s ≡ j
soonest_is f g z zero s j a h e no' = absurd (omega arith)
soonest_is f g z (suc n) s j a h e no' =
    elim (cases_eq j s) [
      | inl p ↦ rw (eq-eqb (f s) g (ap f (sym p) ∙ e)) (sym p)
      | inr p ↦ rw (ne_eqb (f s) g (no' s (omega arith) (omega arith))) (soonest_is f g z n (suc s) j (omega arith) (omega arith) e (λ m b c. no' m (omega arith) c))
    ]

pub soonest_none : (f : ℕ → ℕ) (g z n s : ℕ) → NoneIn f g s (s + n) → soonest f g z n s ≡ z
soonest_none f g z zero s no' = refl
soonest_none f g z (suc n) s no' = rw (ne_eqb (f s) g (no' s (omega arith) (omega arith))) (soonest_none f g z n (suc s) (λ m a b. no' m (omega arith) (omega arith)))

-- the last before n, or none
abbrev Last : (ℕ → ℕ) → ℕ → ℕ → Type 0
Last f g n = ((j : ℕ) × (j < n) × (f j ≡ g) × NoneIn f g (suc j) n) ⊎ NoneIn f g 0 n

last : (f : ℕ → ℕ) (g n : ℕ) → Last f g n
last f g zero = inr (λ m a b. absurd (omega arith))
last f g (suc n) =
    elim (cases_eq (f n) g) [
      | inl e ↦ inl (n, omega arith, e, λ m a b. absurd (omega arith))
      | inr d ↦ elim (last f g n) [
        | inl r ↦ inl (r.0, omega (arith, r.1), r.2, λ m a b e. elim (cases_eq m n) [ inl p ↦ d (ap f (sym p) ∙ e) | inr q ↦ r.3 m a (omega arith) e ])
        | inr no' ↦ inr (λ m a b e. elim (cases_eq m n) [ inl p ↦ d (ap f (sym p) ∙ e) | inr q ↦ no' m a (omega arith) e ])
      ]
    ]

-- the next of the n from s on, or none
abbrev Next : (ℕ → ℕ) → ℕ → ℕ → ℕ → Type 0
Next f g n s = ((j : ℕ) × (s ≤ j) × (j < s + n) × (f j ≡ g) × NoneIn f g s j) ⊎ NoneIn f g s (s + n)

next : (f : ℕ → ℕ) (g n s : ℕ) → Next f g n s
next f g zero s = inr (λ m a b. absurd (omega arith))
next f g (suc n) s =
    elim (cases_eq (f s) g) [
      | inl e ↦ inl (s, omega arith, omega arith, e, λ m a b. absurd (omega arith))
      | inr d ↦ elim (next f g n (suc s)) [
        | inl r ↦ inl (r.0, omega (arith, r.1), omega (arith, r.2), r.3, λ m a b e. elim (cases_eq m s) [ inl p ↦ d (ap f (sym p) ∙ e) | inr q ↦ r.4 m (omega arith) b e ])
        | inr no' ↦ inr (λ m a b e. elim (cases_eq m s) [ inl p ↦ d (ap f (sym p) ∙ e) | inr q ↦ no' m (omega arith) (omega arith) e ])
      ]
    ]

-- one step back in the circle of i's group: a crossing of the group, from which a step forth leads to i
abbrev Back : List Crossing → ℕ → Type 0
Back d i = (j : ℕ) × (before d i ≡ j) × (j < length d) × (group_at d j ≡ group_at d i) × (after d j ≡ i)

back : (d : List Crossing) (i : ℕ) → i < length d → Back d i
back d i h =
    let f : ℕ → ℕ = group_at d in
    let n : ℕ = length d in
    elim (last f (f i) i) [
      | inl r ↦
          (let j : ℕ = r.0 in (
            j,
            latest_is f (f i) _ i j r.1 r.2 r.3,
            omega (arith, r.1),
            r.2,
            soonest_is f (f j) _ (n - suc j) (suc j) i r.1 (omega (arith, r.1)) (sym r.2) (λ m a b e. r.3 m a b (e ∙ r.2)),
          ))
      | inr no' ↦ elim (last f (f i) n) [
        | inl r ↦
            (let j : ℕ = r.0 in (
              j,
              latest_none f (f i) _ i no' ∙ latest_is f (f i) i n j r.1 r.2 r.3,
              r.1,
              r.2,
              soonest_none f (f j) _ (n - suc j) (suc j) (λ m a b e. r.3 m a (omega (arith, r.1)) (e ∙ r.2))
                  ∙ soonest_is f (f j) j n 0 i (omega arith) (omega arith) (sym r.2) (λ m a b e. no' m a b (e ∙ r.2)),
            ))
        | inr none' ↦ absurd (none' i (omega arith) h refl)
      ]
    ]

abbrev Forth : List Crossing → ℕ → Type 0
Forth d i = (j : ℕ) × (after d i ≡ j) × (j < length d) × (group_at d j ≡ group_at d i) × (before d j ≡ i)

forth : (d : List Crossing) (i : ℕ) → i < length d → Forth d i
forth d i h =
    let f : ℕ → ℕ = group_at d in
    let n : ℕ = length d in
    elim (next f (f i) (n - suc i) (suc i)) [
      | inl r ↦
          (let j : ℕ = r.0 in (
            j,
            soonest_is f (f i) _ (n - suc i) (suc i) j r.1 r.2 r.3 r.4,
            omega (arith, r.2),
            r.3,
            latest_is f (f j) _ j i r.1 (sym r.3) (λ m a b e. r.4 m a b (e ∙ r.3)),
          ))
      | inr no' ↦ elim (next f (f i) n 0) [
        | inl r ↦
            (let j : ℕ = r.0 in (
              j,
              soonest_none f (f i) _ (n - suc i) (suc i) no' ∙ soonest_is f (f i) i n 0 j r.1 r.2 r.3 r.4,
              omega (arith, r.2),
              r.3,
              latest_none f (f j) _ j (λ m a b e. r.4 m a b (e ∙ r.3))
                  ∙ latest_is f (f j) j n i h (sym r.3) (λ m a b e. no' m a (omega arith) (e ∙ r.3)),
            ))
        | inr none' ↦ absurd (none' i (omega arith) (omega arith) refl)
      ]
    ]

pub crossings_turn : (d : List Crossing) (i : ℕ) → i < length d → Turns d i
crossings_turn d i h =
    let b = back d i h in
    let a = forth d i h in
    record {
      back = ap (after d) b.1 ∙ b.4;
      forth = ap (before d) a.1 ∙ a.4;
      before_in = subst (λ (x : ℕ). x < length d) (sym b.1) b.2;
      after_in = subst (λ (x : ℕ). x < length d) (sym a.1) a.2;
      before_group = ap (group_at d) b.1 ∙ b.3;
      after_group = ap (group_at d) a.1 ∙ a.3;
    }
