-- Crossings and places inside one pixel.
--   count_most: a road has no more crossings than there are
--   place_low: the place of a crossing is below the number of crossings
--   place_there: and below the count of its road
--   crossing_there: a place that a road has has a crossing
--   leaves_in, enters_in: the turns lead to crossings that there are
use Rattle.std.proofs.Common.{◌≡◌, ℕ, ◌<◌, ◌≤◌, eqb, ltb, List, [], ◌∷◌, length, take, Some, None, Option, sym, ◌∙◌, inl, inr, arith}
use Rattle.std.specs.Option.{IsSome}
use Rattle.std.proofs.lemmas.List.{length-take}
use Rattle.std.proofs.lemmas.Bool.{cases_Bool, cases_lt, lt-ltb, le-ltb, cond-true, cond-false}
use Rattle.symbols.specs.declared.symbols.Crossing.{Crossing}
use Rattle.rules.specs.Crossings.{before, after, where_in, count_on, place_of, crossing_at}
use Rattle.rules.proofs.Places.{crossing_found, crossing_none, places_come_back}
use Rattle.rules.proofs.Turns.{crossings_turn}
use Rattle.model.proofs.Inside.{crossing_some}

pub count_most : (q : ℕ) (d : List Crossing) → count_on q d ≤ length d
count_most q [] = omega arith
count_most q (c ∷ d) =
    elim (cases_Bool (eqb q c.road)) [ inl b ↦ rw b (omega (arith, count_most q d)) | inr b ↦ rw b (omega (arith, count_most q d)) ]

pub place_low : (d : List Crossing) (i q p : ℕ) → Some (q, p) ≡ place_of d i → p < length d
place_low d i q p e =
    let f = crossing_found d q p i ((places_come_back d i q p).0 (sym e)) in
    let m = count_most q (take i d) in
    let l : length (take i d) ≤ i = simp length-take (omega arith) in
    omega (arith, f.0, f.2)

pub place_there : (d : List Crossing) (i q p : ℕ) → Some (q, p) ≡ place_of d i → p < count_on q d
place_there d i q p e =
    elim (cases_lt p (count_on q d)) [
      | inl h ↦ h
      | inr h ↦
          (let n : ◌≡◌ {A = Option ℕ} None (Some i) = sym (crossing_none d q p h) ∙ (places_come_back d i q p).0 (sym e) in
          let z : ◌≡◌ {A = ℕ} 0 1 = cc in
          absurd (omega arith))
    ]

pub crossing_there : (d : List Crossing) (q k : ℕ) → k < count_on q d → IsSome (crossing_at d q k)
crossing_there d q k h = (let s = crossing_some d q k h in rw s.1)

where_is : {A : Type 0} (d : List Crossing) (i : ℕ) (x y : A) → Some y ≡ where_in d i x → (i < length d) × (y ≡ x)
where_is d i x y e =
    elim (cases_lt i (length d)) [
      | inl h ↦ (let q : Some y ≡ Some x = e ∙ cond-true (ltb i (length d)) (Some x) None (lt-ltb i (length d) h) in (h, (cc)))
      | inr h ↦
          (let q : ◌≡◌ {A = Option _} (Some y) None = e ∙ cond-false (ltb i (length d)) (Some x) None (le-ltb i (length d) h) in
          let z : ◌≡◌ {A = ℕ} 0 1 = cc in
          absurd (omega arith))
    ]

pub leaves_in : (d : List Crossing) (i j : ℕ) → where_in d i (before d i) ≡ Some j → j < length d
leaves_in d i j e = (let w = where_is d i (before d i) j (sym e) in omega (arith, w.1, (crossings_turn d i w.0).before_in))

pub enters_in : (d : List Crossing) (i j : ℕ) → where_in d i (after d i) ≡ Some j → j < length d
enters_in d i j e = (let w = where_is d i (after d i) j (sym e) in omega (arith, w.1, (crossings_turn d i w.0).after_in))
