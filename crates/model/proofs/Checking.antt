-- What it is for the check to pass.
--   first_none: where nothing passes a test, each fails it
--   check_free, check_quiet: where the check passes no road fails and no dart is on a ring
use Rattle.std.proofs.Common.{◌≡◌, ℕ, ◌<◌, Bool, false, List, [], ◌∷◌, map, Some, None, Ok, Option, refl, ap, ◌∙◌, inl, inr, ⊎_elim, arith}
use Rattle.std.proofs.lemmas.Bool.{cases_Bool}
use Rattle.symbols.specs.declared.roads.Road.{Road}
use Rattle.symbols.specs.Symbols.{roads}
use Rattle.orbits.specs.Orbits.{In}
use Rattle.orbits.proofs.Members.{in_map, in_joined}
use Rattle.model.specs.declared.darts.Dart.{Dart}
use Rattle.model.specs.Sheets.{Sheet, pixels}
use Rattle.model.specs.Darts.{up_to, darts}
use Rattle.model.specs.Streets.{on_ring, first_that, sides, side_fails, road_refused, ring_refused, check}
use Rattle.model.specs.Statements.{NoRoadFails}
use Rattle.model.proofs.Listing.{in_from, road_in}

pub first_none : {A : Type 0} (p : A → Bool) (xs : List A) → first_that p xs ≡ None → (x : A) → In x xs → p x ≡ false
first_none p [] e x m = absurd m
first_none p (y ∷ ys) e x m =
    elim (cases_Bool (p y)) [
      | inl b ↦
          (let s : ◌≡◌ {A = Option _} (Some y) None = rw b at e in
          let z : ◌≡◌ {A = ℕ} 0 1 = cc in
          absurd (omega arith))
      | inr b ↦ ⊎_elim (λ (q : x ≡ y). ap p q ∙ b) (λ (n : In x ys). first_none p ys (rw b at e) x n) m
    ]

passes : (o : Option (ℕ × Road)) (q : Option Dart) → road_refused o (ring_refused q) ≡ Ok tt → (o ≡ None) × (q ≡ None)
passes None None e = (refl, refl)
passes None (Some d) e = (let z : ◌≡◌ {A = ℕ} 0 1 = cc in absurd (omega arith))
passes (Some x) q e = (let z : ◌≡◌ {A = ℕ} 0 1 = cc in absurd (omega arith))

in_sides : (s : Sheet) (p : ℕ) (q : Road) → p < pixels s → In (p, q) (sides s)
in_sides s p q h =
    in_joined (λ x. map (λ (r : Road). (x, r)) roads) (p, q) p (up_to (pixels s)) (in_from 0 (pixels s) p (omega arith) (omega arith))
    (in_map (λ (r : Road). (p, r)) q roads (road_in q))

module _ (s : Sheet) (e : check s ≡ Ok tt) where
  parts : (first_that (side_fails s) (sides s) ≡ None) × (first_that (on_ring s) (darts s) ≡ None)
  parts = passes (first_that (side_fails s) (sides s)) (first_that (on_ring s) (darts s)) e

  pub check_free : NoRoadFails s
  check_free p q h = first_none (side_fails s) (sides s) parts.0 (p, q) (in_sides s p q h)

  pub check_quiet : (d : Dart) → In d (darts s) → on_ring s d ≡ false
  check_quiet d m = first_none (on_ring s) (darts s) parts.1 d m
