use Rattle.model.specs.Streets.{circles}
use Rattle.stores.specs.Sources.{sheet_told}
use Rattle.darts.proofs.Strolls.{left}
use Rattle.darts.proofs.Tours.{Rooting}
use Rattle.darts.proofs.passable.Passable.is_least.Given as goal

abbrev pub invariant-loop-dart : goal.invariant-loop-dart
invariant-loop-dart g l = Rooting (sheet_told (g.S.Source.told l.self.source.now)) l.dart l.ahead l.back

abbrev pub decreases-loop-dart : goal.decreases-loop-dart
decreases-loop-dart g l = left (circles (sheet_told (g.S.Source.told l.self.source.now))) l.dart l.ahead
