use Rattle.rows.specs.Rows.{items}
use Rattle.words.proofs.Spelling.{Spelling}
use Rattle.words.proofs.making.spell.Given as goal

abbrev pub invariant-loop-b : goal.invariant-loop-b
invariant-loop-b l = Spelling l.text l.b-index (items l.symbols)
