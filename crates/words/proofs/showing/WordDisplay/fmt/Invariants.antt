use Rattle.std.proofs.Common.{take}
use Rattle.std.specs.Fmt.{IsPlainFormatter, HasWritten}
use Rattle.symbols.specs.Symbols.{text}
use Rattle.words.proofs.showing.WordDisplay.fmt.Given as goal

abbrev pub invariant-loop-s : goal.invariant-loop-s
invariant-loop-s g l = IsPlainFormatter l.fn.f → HasWritten g.W.Write.write_str_gives l.fn.f (text (take l.s-index l.s-items)) l.f
