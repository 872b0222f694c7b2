use Rattle.std.proofs.Common.{◌≡◌, ℕ, ◌*◌, ◌≤◌, length, sum_by}
use Rattle.model.specs.declared.darts.Dart.{Dart}
use Rattle.stores.specs.Sources.{sheet_told}
use Rattle.darts.specs.Rest.{to_come}
use Rattle.darts.proofs.Coming.{Listed}
use Rattle.checks.specs.Tallies.{Computes}
use Rattle.checks.proofs.totals.total.Given as goal

-- What was given is added.
abbrev pub invariant-loop-dart : goal.invariant-loop-dart
invariant-loop-dart g l = record {
  listed : Listed (sheet_told (g.S.Source.told l.free.source.now)) l.yielded (to_come g.S.Source.told l.dart-iterator);
  sum : (f : Dart → ℕ) → Computes (sheet_told (g.S.Source.told l.free.source.now)) (goal.F-post g l.amount) f → l.sum ≡ sum_by f l.yielded;
  fits : l.sum ≤ length l.yielded * 4294967296;
}
