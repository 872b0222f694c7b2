use Rattle.std.proofs.Common.{◌≡◌, ◌++◌, replicate}
use Rattle.symbols.specs.declared.symbols.Symbol.TheVariants.{Corner}
use Rattle.rows.specs.Rows.{items}
use Rattle.tables.proofs.building.push_corners.Given as goal

abbrev pub invariant-loop : goal.invariant-loop
invariant-loop l = items l.word ≡ items l.fn.word ++ replicate l.counter Corner
