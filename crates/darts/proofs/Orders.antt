-- Darts as code compares them.
--   earlier: one is before another
--   other: two are not one
use Rattle.std.proofs.Common.{◌≡◌, Bool, not, arith}
use Rattle.std.proofs.lemmas.Grind.{common_steps}
use Rattle.std.specs.Ordering.{partial_lt}
use Rattle.model.specs.declared.darts.Dart.{Dart}
use Rattle.model.specs.contracts.darts.DartPartialOrd.TheImpl.{partial_cmp-value}
use Rattle.model.specs.contracts.darts.DartPartialEq.TheImpl.{eq-value}
use Rattle.model.specs.Darts.{same_dart, dart_le}

pub earlier : (a b : Dart) (r : Bool) → r ≡ partial_lt partial_cmp-value.it a b → not r ≡ dart_le b a
earlier a b r e = grind (arith, common_steps)

pub other : (a b : Dart) (r : Bool) → r ≡ not (eq-value.it a b) → not r ≡ same_dart a b
other a b r e = grind (arith, common_steps)
