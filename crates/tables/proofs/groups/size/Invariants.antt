use Rattle.std.proofs.Common.{◌≡◌, ◌≤◌, ◌==◌, count_by, take}
use Rattle.symbols.specs.declared.symbols.Crossing.{Crossing}
use Rattle.tables.proofs.groups.size.Given as goal

abbrev pub invariant-loop-c : goal.invariant-loop-c
invariant-loop-c l = (l.n ≤ l.c-index) × (l.n ≡ count_by (λ (x : Crossing). x.group == l.g) (take l.c-index l.table))
