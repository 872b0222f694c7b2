-- Roads that never fall are told by how many crossings each has.
--   Sorted: the roads rise from a road on, to 3
--   Level, Even: as many crossings on the same roads; as many on each road
--   tables_are_told: tables with rising roads mean one drawing exactly when it is the same in counts, groups and vertices
use Rattle.std.proofs.Common.{◌≡◌, ℕ, zero, suc, ◌<◌, ◌≤◌, ◌≢◌, ◌↔◌, List, [], ◌∷◌, length, sym, refl, ap, ◌∙◌, inl, inr, arith}
use Rattle.std.proofs.lemmas.Bool.{ne_eqb, eq-eqb, cases_order}
use Rattle.symbols.specs.declared.symbols.Crossing.{Crossing}
use Rattle.rules.specs.Tables.{at, Rising, canonical}
use Rattle.rules.specs.Crossings.{SameDrawing, count_on}
use Rattle.rules.proofs.Tables.{drawings_tell_tables}

abbrev pub Sorted : ℕ → List Crossing → Type 0
Sorted r [] = Unit {0}
Sorted r (c ∷ cs) = (r ≤ c.road) × (c.road ≤ 3) × Sorted c.road cs

pub sorted : (t : List Crossing) (r : ℕ) → ((i : ℕ) → i < length t → r ≤ (at t i).road) → Rising t → Sorted r t
sorted [] r l u = tt
sorted (c ∷ cs) r l u = (
  l 0 (omega arith),
  u.0 0 (omega arith),
  sorted cs c.road (λ i h. u.1 0 (suc i) (omega arith) (omega arith))
      (λ i h. u.0 (suc i) (omega arith), λ i j a h. u.1 (suc i) (suc j) (omega arith) (omega arith)),
)

count_here : (q : ℕ) (c : Crossing) (cs : List Crossing) → q ≡ c.road → count_on q (c ∷ cs) ≡ suc (count_on q cs)
count_here q c cs e = rw (eq-eqb q c.road e)

count_off : (q : ℕ) (c : Crossing) (cs : List Crossing) → q ≢ c.road → count_on q (c ∷ cs) ≡ count_on q cs
count_off q c cs e = rw (ne_eqb q c.road e)

count_low : (t : List Crossing) (r q : ℕ) → q < r → Sorted r t → count_on q t ≡ 0
count_low [] r q h s = refl
count_low (c ∷ cs) r q h s = count_off q c cs (omega (arith, s.0)) ∙ count_low cs c.road q (omega (arith, s.0)) s.2

abbrev pub Level : List Crossing → List Crossing → Type 0
Level s t = (length s ≡ length t) × ((i : ℕ) → i < length s → (at s i).road ≡ (at t i).road)

abbrev pub Even : List Crossing → List Crossing → Type 0
Even s t = (q : ℕ) → q < 4 → count_on q s ≡ count_on q t

-- one that begins lower has more of its first road
lower : (c : Crossing) (cs : List Crossing) (r : ℕ) (t : List Crossing) → c.road < r → c.road ≤ 3 → Sorted r t → Even (c ∷ cs) t → ⊥
lower c cs r t h l s e = omega (arith, e c.road (omega arith), count_here c.road c cs refl, count_low t r c.road h s)

tails : (c d : Crossing) (cs ds : List Crossing) → c.road ≡ d.road → Even (c ∷ cs) (d ∷ ds) → Even cs ds
tails c d cs ds p e q h =
    elim (cases_order q c.road) [
      | inl a ↦ omega (arith, e q h, count_here q c cs a, count_here q d ds (a ∙ p))
      | inr b ↦
          (let n : q ≢ c.road = elim b [ inl x ↦ omega arith | inr y ↦ omega arith ] in
          omega (arith, e q h, count_off q c cs n, count_off q d ds (λ x. n (x ∙ sym p))))
    ]

pub level : (s t : List Crossing) (a b : ℕ) → Sorted a s → Sorted b t → Even s t → Level s t
level [] [] a b u v e = (refl, λ i h. absurd (omega arith))
level [] (d ∷ ds) a b u v e = absurd (omega (arith, e d.road (omega (arith, v.1)), count_here d.road d ds refl))
level (c ∷ cs) [] a b u v e = absurd (omega (arith, e c.road (omega (arith, u.1)), count_here c.road c cs refl))
level (c ∷ cs) (d ∷ ds) a b u v e =
    elim (cases_order c.road d.road) [
      | inl p ↦
          (let r = level cs ds c.road d.road u.2 v.2 (tails c d cs ds p e) in
          (ap suc r.0, heads p r.1))
      | inr o ↦ elim o [
        | inl x ↦ absurd (lower c cs d.road (d ∷ ds) x u.1 (omega arith, v.1, v.2) e)
        | inr y ↦ absurd (lower d ds c.road (c ∷ cs) y v.1 (omega arith, u.1, u.2) (λ q h. sym (e q h)))
      ]
    ]
  where
    heads : c.road ≡ d.road → ((i : ℕ) → i < length cs → (at cs i).road ≡ (at ds i).road) → (i : ℕ) → i < length (c ∷ cs) → (at (c ∷ cs) i).road ≡ (at (d ∷ ds) i).road
    heads p f zero h = p
    heads p f (suc i) h = f i (omega arith)

even : (s t : List Crossing) → Level s t → Even s t
even [] [] l q h = refl
even [] (d ∷ ds) l q h = absurd (omega (arith, l.0))
even (c ∷ cs) [] l q h = absurd (omega (arith, l.0))
even (c ∷ cs) (d ∷ ds) l q h =
    let p : c.road ≡ d.road = l.1 0 (omega arith) in
    let r = even cs ds (omega (arith, l.0), λ i k. l.1 (suc i) (omega arith)) q h in
    elim (cases_order q c.road) [
      | inl a ↦ omega (arith, r, count_here q c cs a, count_here q d ds (a ∙ p))
      | inr b ↦
          (let n : q ≢ c.road = elim b [ inl x ↦ omega arith | inr y ↦ omega arith ] in
          omega (arith, r, count_off q c cs n, count_off q d ds (λ x. n (x ∙ sym p))))
    ]

pub tables_are_told : (s t : List Crossing) → Rising s → Rising t → (canonical s ≡ canonical t) ↔ SameDrawing s t
tables_are_told s t u v =
    let d = drawings_tell_tables s t in (
      λ e.
          let a = d.0 e in
          record { counts = even s t (a.count, a.roads); groups = a.groups; vertices = a.flags },
      λ a.
          let l = level s t 0 0 (sorted s 0 (λ i h. omega arith) u) (sorted t 0 (λ i h. omega arith) v) a.counts in
          d.1 (record { count = l.0; roads = l.1; groups = a.groups; flags = a.vertices }),
    )
