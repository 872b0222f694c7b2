use Rattle.stores.specs.Sources.{sheet_told}
use Rattle.walks.proofs.Going.{Gone}
use Rattle.walks.proofs.steps.walk_on.Given as goal

abbrev pub invariant-loop-made : goal.invariant-loop-made
invariant-loop-made g l = Gone (sheet_told (g.S.Source.told l.source)) l.n l.initial.walk l.made l.walk
