use Rattle.std.proofs.Common.{◌≡◌, length}
use Rattle.tables.specs.Nests.{Lasts}
use Rattle.tables.proofs.groups.last_records.Given as goal

abbrev pub invariant-loop-k : goal.invariant-loop-k
invariant-loop-k l = (length l.lasts ≡ 60) × Lasts l.firsts l.lasts l.k
