use Rattle.std.proofs.Common.{◌-◌, length}
use Rattle.model.specs.Darts.{darts}
use Rattle.model.specs.Streets.{circles}
use Rattle.stores.specs.Sources.{sheet_told}
use Rattle.darts.proofs.Strolls.{Going}
use Rattle.darts.proofs.passable.Passable.steps_to_vertex.Given as goal

abbrev pub invariant-loop-at : goal.invariant-loop-at
invariant-loop-at g l = Going (circles (sheet_told (g.S.Source.told l.self.source.now))) l.initial.at l.n l.at

abbrev pub decreases-loop-at : goal.decreases-loop-at
decreases-loop-at g l = length (darts (sheet_told (g.S.Source.told l.self.source.now))) - l.n
