-- A sum, one dart after another.
--   one_added: one dart more is added
use Rattle.std.proofs.Common.{◌≡◌, ℕ, ◌+◌, List, [], ◌∷◌, ◌++◌, sum_by, arith}
use Rattle.std.proofs.lemmas.List.Sums.{sum_by-cons, sum_by-append}
use Rattle.model.specs.declared.darts.Dart.{Dart}

pub one_added : (f : Dart → ℕ) (ds : List Dart) (d : Dart) (sum n : ℕ) → sum ≡ sum_by f ds → n ≡ f d → sum + n ≡ sum_by f (ds ++ (d ∷ []))
one_added f ds d sum n e q = omega (arith, sum_by-append f ds (d ∷ []), sum_by-cons f d [])
