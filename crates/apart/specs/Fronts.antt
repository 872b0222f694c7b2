-- Memories that calls may have filled.
--   front: what a call has filled memory with, if it was not refused
--   Compared: whether two such are the same, if both are there
use Rattle.std.specs.Prelude.{◌≡◌, ℕ, Bool, List, take, Some, None, Ok, Err, Decides, Option, Result}
use Rattle.symbols.specs.declared.refusals.Refusal.{Refusal}

abbrev pub front : Result ℕ Refusal → List ℕ → Option (List ℕ)
front (Ok n) memory = Some (take n memory)
front (Err f) memory = None

abbrev pub Compared : Option (List ℕ) → Option (List ℕ) → Option Bool → Type 0
Compared (Some a) (Some b) (Some t) = Decides t (a ≡ b)
Compared (Some a) (Some b) None = ⊥
Compared (Some a) None r = r ≡ None
Compared None y r = r ≡ None
