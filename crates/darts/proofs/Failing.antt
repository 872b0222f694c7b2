-- The first failing road, pixel by pixel.
--   or_else: the one value if there is one, else the other
--   first_append: the first in one list, else in the other
--   sides_from: the roads of so many pixels from one on
--   first_from: the first failing road from a pixel on
--   sides_more, sides_stop: a pixel without a failing road; a pixel with one
--   none_found, roads_free: behind the last pixel none was found, and none fails
use Rattle.std.proofs.Common.{◌≡◌, ℕ, suc, ◌+◌, ◌-◌, ◌<◌, ◌≤◌, Bool, List, [], ◌∷◌, ◌++◌, map, Some, None, Option, sym, refl, ap, ◌∙◌, inl, inr, arith}
use Rattle.std.specs.List.{flat_map, find}
use Rattle.std.proofs.lemmas.Bool.{cases_Bool}
use Rattle.symbols.specs.declared.roads.Road.{Road}
use Rattle.symbols.specs.Symbols.{roads}
use Rattle.orbits.specs.Orbits.{In}
use Rattle.orbits.proofs.Members.{in_map, in_joined}
use Rattle.model.specs.Sheets.{Sheet, pixels, fails}
use Rattle.model.specs.Darts.{from_on, up_to}
use Rattle.model.specs.Streets.{first_that, sides, side_fails}
use Rattle.model.specs.Statements.{NoRoadFails}
use Rattle.model.proofs.Listing.{in_from, road_in}
use Rattle.model.proofs.Checking.{first_none}

abbrev or_else : {A : Type 0} → Option A → Option A → Option A
or_else None y = y
or_else (Some x) y = Some x

first_append : {A : Type 0} (p : A → Bool) (xs ys : List A) → first_that p (xs ++ ys) ≡ or_else (first_that p xs) (first_that p ys)
first_append p [] ys = refl
first_append p (x ∷ xs) ys = elim (cases_Bool (p x)) [ inl b ↦ rw b | inr b ↦ rw b (first_append p xs ys) ]

abbrev paired : {A B : Type 0} → A → Option B → Option (A × B)
paired x None = None
paired x (Some y) = Some (x, y)

first_pairs : (s : Sheet) (i : ℕ) (qs : List Road) → first_that (side_fails s) (map (λ (q : Road). (i, q)) qs) ≡ paired i (find (fails s i) qs)
first_pairs s i [] = refl
first_pairs s i (q ∷ qs) = elim (cases_Bool (fails s i q)) [ inl b ↦ rw b | inr b ↦ rw b (first_pairs s i qs) ]

abbrev sides_from : ℕ → ℕ → List (ℕ × Road)
sides_from i n = flat_map (λ p. map (λ (q : Road). (p, q)) roads) (from_on i n)

module _ (s : Sheet) where
  abbrev pub first_from : ℕ → Option (ℕ × Road)
  first_from i = first_that (side_fails s) (sides_from i (pixels s - i))

  module _ (i : ℕ) (h : i < pixels s) where
    at_pixel : first_from i ≡ or_else (paired i (find (fails s i) roads)) (first_from (i + 1))
    at_pixel =
        let z : pixels s - i ≡ suc (pixels s - (i + 1)) = omega arith in
        let y : suc i ≡ i + 1 = omega arith in
        ap (λ (n : ℕ). first_that (side_fails s) (sides_from i n)) z
        ∙ first_append (side_fails s) (map (λ (q : Road). (i, q)) roads) (sides_from (suc i) (pixels s - (i + 1)))
        ∙ ap (λ (o : Option (ℕ × Road)). or_else o (first_that (side_fails s) (sides_from (suc i) (pixels s - (i + 1))))) (first_pairs s i roads)
        ∙ ap (λ (n : ℕ). or_else (paired i (find (fails s i) roads)) (first_that (side_fails s) (sides_from n (pixels s - (i + 1))))) y

    pub sides_more : None ≡ find (fails s i) roads → first_from (i + 1) ≡ first_from i
    sides_more e = sym (at_pixel ∙ ap (λ (o : Option Road). or_else (paired i o) (first_from (i + 1))) (sym e))

    pub sides_stop : (q : Road) → Some q ≡ find (fails s i) roads → first_from i ≡ Some (i, q)
    sides_stop q e = at_pixel ∙ ap (λ (o : Option Road). or_else (paired i o) (first_from (i + 1))) (sym e)

in_sides : (s : Sheet) (p : ℕ) (q : Road) → p < pixels s → In (p, q) (sides s)
in_sides s p q h =
    in_joined (λ x. map (λ (r : Road). (x, r)) roads) (p, q) p (up_to (pixels s)) (in_from 0 (pixels s) p (omega arith) (omega arith))
    (in_map (λ (r : Road). (p, r)) q roads (road_in q))

module _ (s : Sheet) (i : ℕ) (l : pixels s ≤ i) (e : first_from s i ≡ first_that (side_fails s) (sides s)) where
  pub none_found : first_that (side_fails s) (sides s) ≡ None
  none_found = (let z : pixels s - i ≡ 0 = omega arith in sym e ∙ ap (λ (n : ℕ). first_that (side_fails s) (sides_from i n)) z)

  pub roads_free : NoRoadFails s
  roads_free p q h = first_none (side_fails s) (sides s) none_found (p, q) (in_sides s p q h)
