use Rattle.std.proofs.Common.{◌≡◌, take}
use Rattle.symbols.specs.Symbols.{text}
use Rattle.rows.specs.Rows.{items}
use Rattle.words.proofs.showing.letters_of.Given as goal

abbrev pub invariant-loop-s : goal.invariant-loop-s
invariant-loop-s l = items l.letters ≡ text (take l.s-index l.symbols)
