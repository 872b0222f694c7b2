use Rattle.std.proofs.Common.{◌≡◌, length, map, take}
use Rattle.tables.specs.Nests.{firsts_in}
use Rattle.tables.proofs.groups.first_records.Given as goal

abbrev pub invariant-loop-k : goal.invariant-loop-k
invariant-loop-k l = (length l.firsts ≡ 60) × (take l.k l.firsts ≡ map (firsts_in l.table) (take l.k l.table))
