use Rattle.std.proofs.Common.{◌≡◌, ◌≤◌, [], length, drop, reverse, Some}
use Rattle.rows.specs.Rows.{items}
use Rattle.tables.specs.Nests.{nests, firsts}
use Rattle.tables.proofs.judging.nested.Given as goal

abbrev pub invariant-loop-k : goal.invariant-loop-k
invariant-loop-k l =
    (nests l.k (Some (reverse (items l.opened))) (drop l.k (firsts l.table)) ≡ nests 0 (Some []) (firsts l.table)) × (length (items l.opened) ≤ l.k)
