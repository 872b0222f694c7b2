-- Counting the crossings of a road, a record at a time.
--   count_yes, count_no: a record more, on the road or on another
--   count_full: all of them
--   count_by_on: the same by the test of each
use Rattle.std.proofs.Common.{◌≡◌, ℕ, suc, ◌+◌, ◌<◌, ◌≤◌, cond, eqb, ◌≢◌, List, [], ◌∷◌, ◌++◌, length, take, filter, count_by, ◌==◌, refl, sym, ap, ◌∙◌, inl, inr, arith}
use Rattle.std.proofs.lemmas.List.{take_more, take_all}
use Rattle.std.proofs.lemmas.List.Sums.{length-filter}
use Rattle.std.proofs.lemmas.Bool.{eq-eqb, ne_eqb, cases_Bool, cases_eq}
use Rattle.symbols.specs.declared.symbols.Crossing.{Crossing}
use Rattle.rules.specs.Tables.{at, blank}
use Rattle.rules.specs.Crossings.{count_on}

count_push : (q n : ℕ) (t : List Crossing) (c : Crossing) → cond (eqb q c.road) 1 0 ≡ n → count_on q (t ++ c ∷ []) ≡ count_on q t + n
count_push q n [] c e =
    elim (cases_Bool (eqb q c.road)) [
      | inl b ↦ (let m : 1 ≡ n = rw b at e in rw b (omega arith))
      | inr b ↦ (let m : 0 ≡ n = rw b at e in rw b (omega arith))
    ]
count_push q n (x ∷ t) c e =
    elim (cases_Bool (eqb q x.road)) [
      | inl b ↦ rw b (omega (arith, count_push q n t c e))
      | inr b ↦ rw b (count_push q n t c e)
    ]

pub count_yes : (q : ℕ) (t : List Crossing) (i : ℕ) → i < length t → (at t i).road ≡ q → count_on q (take (i + 1) t) ≡ count_on q (take i t) + 1
count_yes q t i h e = ap (count_on q) (take_more t i blank h) ∙ count_push q 1 (take i t) (at t i) (rw (eq-eqb q (at t i).road (sym e)))

pub count_no : (q : ℕ) (t : List Crossing) (i : ℕ) → i < length t → (at t i).road ≢ q → count_on q (take (i + 1) t) ≡ count_on q (take i t)
count_no q t i h e = ap (count_on q) (take_more t i blank h) ∙ count_push q 0 (take i t) (at t i) (rw (ne_eqb q (at t i).road (λ p. e (sym p)))) ∙ omega arith

pub count_full : (q : ℕ) (t : List Crossing) (i : ℕ) → length t ≤ i → count_on q (take i t) ≡ count_on q t
count_full q t i h = ap (count_on q) (take_all i t h)

on_filter : (q : ℕ) (t : List Crossing) → length (filter (λ (c : Crossing). c.road == q) t) ≡ count_on q t
on_filter q [] = refl
on_filter q (x ∷ t) =
    elim (cases_eq q x.road) [
      | inl e ↦ rw (eq-eqb x.road q (sym e), eq-eqb q x.road e) (ap suc (on_filter q t))
      | inr e ↦ rw (ne_eqb x.road q (λ p. e (sym p)), ne_eqb q x.road e) (on_filter q t)
    ]

pub count_by_on : (q : ℕ) (t : List Crossing) → count_by (λ (c : Crossing). c.road == q) t ≡ count_on q t
count_by_on q t = sym (length-filter (λ (c : Crossing). c.road == q) t) ∙ on_filter q t
