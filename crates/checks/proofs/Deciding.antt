-- Whether there is a ring, by counting.
--   reached-is: the darts that sidewalks reach, one by one
--   darts_counted: as many darts as there are
--   first_absent: where each fails a test, none is found
--   all_reached: where sidewalks reach as many darts as there are, no dart is on a ring
use Rattle.std.proofs.Common.{◌≡◌, ℕ, ◌+◌, Bool, false, cond, List, [], ◌∷◌, length, None, Ok, sum_by, filter, sym, refl, ap, ◌∙◌, inl, inr, arith, length-append}
use Rattle.std.specs.List.{flat_map}
use Rattle.std.proofs.lemmas.List.Sums.{sum_by-cons}
use Rattle.std.proofs.lemmas.Bool.{cases_Bool}
use Rattle.orbits.specs.Orbits.{In, cover}
use Rattle.orbits.proofs.All.{covers, rings_told}
use Rattle.model.specs.declared.darts.Dart.{Dart}
use Rattle.model.specs.Sheets.{Sheet, Sheetly}
use Rattle.model.specs.Darts.{darts}
use Rattle.model.specs.Streets.{circles, on_ring, first_that, ring_refused}
use Rattle.model.specs.Statements.{NoRoadFails}
use Rattle.model.proofs.Listing.{circles_lawful}
use Rattle.checks.specs.Tallies.{reached, as_many}

reached_by : (p : Dart → Bool) (f : Dart → List Dart) (ds : List Dart) → sum_by (λ d. cond (p d) (length (f d)) 0) ds ≡ length (flat_map f (filter p ds))
reached_by p f [] = refl
reached_by p f (d ∷ ds) =
    let r = reached_by p f ds in
    let a = sum_by-cons (λ x. cond (p x) (length (f x)) 0) d ds in
    elim (cases_Bool (p d)) [
      | inl b ↦ (let c : sum_by (λ x. cond (p x) (length (f x)) 0) (d ∷ ds) ≡ length (f d) + sum_by (λ x. cond (p x) (length (f x)) 0) ds = a ∙ ap (λ (q : Bool). cond q (length (f d)) 0 + sum_by (λ x. cond (p x) (length (f x)) 0) ds) b in
          c ∙ ap (λ (x : ℕ). length (f d) + x) r ∙ sym (length-append (f d) (flat_map f (filter p ds))) ∙ ap (λ (q : Bool). length (flat_map f (cond q (d ∷ filter p ds) (filter p ds)))) (sym b))
      | inr b ↦ (let c : sum_by (λ x. cond (p x) (length (f x)) 0) (d ∷ ds) ≡ 0 + sum_by (λ x. cond (p x) (length (f x)) 0) ds = a ∙ ap (λ (q : Bool). cond q (length (f d)) 0 + sum_by (λ x. cond (p x) (length (f x)) 0) ds) b in
          let z : 0 + sum_by (λ x. cond (p x) (length (f x)) 0) ds ≡ sum_by (λ x. cond (p x) (length (f x)) 0) ds = omega arith in
          c ∙ z ∙ r ∙ ap (λ (q : Bool). length (flat_map f (cond q (d ∷ filter p ds) (filter p ds)))) (sym b))
    ]

ones : (ds : List Dart) → sum_by (λ d. 1) ds ≡ length ds
ones [] = refl
ones (d ∷ ds) = (let r = ones ds in omega (arith, sum_by-cons (λ (x : Dart). 1) d ds))

pub darts_counted : (s : Sheet) → as_many s ≡ length (darts s)
darts_counted s = ones (darts s)

first_absent : {A : Type 0} (p : A → Bool) (xs : List A) → ((x : A) → In x xs → p x ≡ false) → first_that p xs ≡ None
first_absent p [] h = refl
first_absent p (x ∷ xs) h = rw (h x (inl refl)) (first_absent p xs (λ y m. h y (inr m)))

pub all_reached : (s : Sheet) → Sheetly s → NoRoadFails s → reached s ≡ as_many s → ring_refused (first_that (on_ring s) (darts s)) ≡ Ok tt
all_reached s k free e =
    let law = circles_lawful s k free in
    let n : length (cover (circles s)) ≡ length (darts s) = sym (reached_by _ _ (darts s)) ∙ e ∙ darts_counted s in
    let none = (covers Dart (circles s) law).counted.0 n in
    ap ring_refused (first_absent (on_ring s) (darts s) (λ d m.
    elim (cases_Bool (on_ring s d)) [
      | inl t ↦ absurd (none d m ((rings_told Dart (circles s) law d m).0 t))
      | inr t ↦ t
    ]))
