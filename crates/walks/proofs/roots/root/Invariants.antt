use Rattle.std.proofs.Common.{◌-◌, length}
use Rattle.model.specs.Darts.{darts}
use Rattle.stores.specs.Sources.{sheet_told}
use Rattle.walks.proofs.Rounds.{OnRound}
use Rattle.walks.proofs.roots.root.Given as goal

abbrev pub invariant-loop-walk : goal.invariant-loop-walk
invariant-loop-walk g l = OnRound (sheet_told (g.S.Source.told l.source)) l.initial.walk.start l.walk l.low

abbrev pub decreases-loop-walk : goal.decreases-loop-walk
decreases-loop-walk g l = length (darts (sheet_told (g.S.Source.told l.source))) - l.walk.steps
