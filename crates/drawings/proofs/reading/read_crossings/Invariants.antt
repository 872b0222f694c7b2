use Rattle.rows.specs.Rows.{items}
use Rattle.drawings.proofs.Meetings.{Reading}
use Rattle.drawings.proofs.reading.read_crossings.Given as goal

abbrev pub invariant-loop-s : goal.invariant-loop-s
invariant-loop-s l = Reading l.symbols l.s-index l.road (items l.marks) (items l.crossings)
