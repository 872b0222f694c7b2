use Rattle.rows.specs.Rows.{items}
use Rattle.tables.proofs.Turning.{Wrote}
use Rattle.tables.proofs.building.word_of.Given as goal

abbrev pub invariant-loop-k : goal.invariant-loop-k
invariant-loop-k l = Wrote l.table l.k l.road (items l.word)
