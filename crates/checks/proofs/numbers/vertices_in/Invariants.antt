use Rattle.std.proofs.Common.{◌≡◌, ◌+◌, ◌≤◌, length}
use Rattle.rules.specs.Tables.{at}
use Rattle.model.specs.Streets.{vertices}
use Rattle.checks.specs.Counting.{begins_vertex}
use Rattle.checks.proofs.Numbering.{kept_from}
use Rattle.checks.proofs.numbers.vertices_in.Given as goal

abbrev pub invariant-loop-i : goal.invariant-loop-i
invariant-loop-i l = (l.n + kept_from (λ i. begins_vertex (at l.crossing-items i) i) (length l.crossing-items) l.i ≡ vertices l.crossing-items) × (l.n ≤ l.i)
