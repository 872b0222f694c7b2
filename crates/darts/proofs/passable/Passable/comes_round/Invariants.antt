use Rattle.model.specs.Darts.{next_of}
use Rattle.model.specs.Streets.{circles}
use Rattle.stores.specs.Sources.{sheet_told}
use Rattle.darts.proofs.Strolls.{left}
use Rattle.darts.proofs.Tours.{Ringing}
use Rattle.darts.proofs.passable.Passable.comes_round.Given as goal

abbrev pub invariant-loop-dart : goal.invariant-loop-dart
invariant-loop-dart g l = Ringing (sheet_told (g.S.Source.told l.self.source.now)) l.dart l.ahead

abbrev pub decreases-loop-dart : goal.decreases-loop-dart
decreases-loop-dart g l = (let s = sheet_told (g.S.Source.told l.self.source.now) in left (circles s) l.dart (next_of s l.ahead))
