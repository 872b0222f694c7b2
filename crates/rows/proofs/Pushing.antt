-- A row that has room.
--   pushed: one more stands behind the others
use Rattle.std.proofs.Common.{◌≡◌, ℕ, ◌<◌, [], ◌∷◌, ◌++◌, length, Some, None, Option, MatchOption, arith}
use Rattle.rows.specs.declared.row.Row.{Row}
use Rattle.rows.specs.Rows.{items}

pub pushed : {T : Type 0} {N : ℕ} (r : Option (Unit {0})) (a b : Row T N) (x : T) → MatchOption r ((length (items a) ≡ N) × (b ≡ a)) (λ u. items b ≡ items a ++ x ∷ []) → length (items a) < N → items b ≡ items a ++ x ∷ []
pushed None a b x m h = absurd (omega (arith, m.0))
pushed (Some u) a b x m h = m
