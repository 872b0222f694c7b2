use Rattle.std.proofs.Common.{◌-◌, length}
use Rattle.rows.specs.Rows.{items}
use Rattle.records.proofs.Cuts.{Cutting}
use Rattle.records.proofs.body.read_word.Given as goal

abbrev pub invariant-loop-corners : goal.invariant-loop-corners
invariant-loop-corners l = Cutting l.bytes l.from l.corners (items l.word)

abbrev pub decreases-loop-corners : goal.decreases-loop-corners
decreases-loop-corners l = 64 - length (items l.word)
