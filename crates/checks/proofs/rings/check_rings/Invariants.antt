use Rattle.std.proofs.Common.{◌≡◌}
use Rattle.model.specs.Darts.{darts}
use Rattle.model.specs.Streets.{on_ring, first_that}
use Rattle.stores.specs.Sources.{sheet_told}
use Rattle.darts.specs.Rest.{to_come}
use Rattle.darts.proofs.Coming.{Listed}
use Rattle.checks.proofs.rings.check_rings.Given as goal

-- None that was given is on a ring.
abbrev pub invariant-loop-dart : goal.invariant-loop-dart
invariant-loop-dart g l =
    let s = sheet_told (g.S.Source.told l.free.source.now) in
    record {
      listed : Listed s l.yielded (to_come g.S.Source.told l.dart-iterator);
      none : first_that (on_ring s) (to_come g.S.Source.told l.dart-iterator) ≡ first_that (on_ring s) (darts s);
    }
