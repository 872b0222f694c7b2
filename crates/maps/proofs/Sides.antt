-- The far side of a road.
--   beyond_there: the pixel beyond a road that is not on the rim is on the sheet
use Rattle.std.proofs.Common.{◌≡◌, ℕ, ◌<◌, Some, None, Option, ◌∙◌, inl, inr, arith}
use Rattle.std.proofs.lemmas.Bool.{cases_Bool, cond-true, cond-false}
use Rattle.symbols.specs.declared.roads.Road.{Road}
use Rattle.model.specs.Sheets.{Sheet, Sheetly, pixels, on_rim, beyond}
use Rattle.model.proofs.Pixels.{beside}
use Rattle.maps.specs.Passing.{neighbour}

pub beyond_there : (s : Sheet) → Sheetly s → (p : ℕ) (q : Road) (b : ℕ) → p < pixels s → Some b ≡ neighbour s p q → b < pixels s
beyond_there s k p q b l e =
    elim (cases_Bool (on_rim s p q)) [
      | inl t ↦
          (let o : ◌≡◌ {A = Option ℕ} (Some b) None = e ∙ cond-true (on_rim s p q) None (Some (beyond s p q)) t in
          let z : ◌≡◌ {A = ℕ} 0 1 = cc in
          absurd (omega arith))
      | inr t ↦
          (let o : Some b ≡ Some (beyond s p q) = e ∙ cond-false (on_rim s p q) None (Some (beyond s p q)) t in
          let z : b ≡ beyond s p q = cc in
          omega (arith, (beside s k p q l t).inside))
    ]
