use Rattle.std.proofs.Common.{◌≡◌, ◌++◌, take, drop}
use Rattle.stores.specs.Bytes.{encoded}
use Rattle.stores.proofs.bytes.put_word.Given as goal

abbrev pub invariant-loop-i : goal.invariant-loop-i
invariant-loop-i l = l.bytes ≡ take l.i (encoded l.word) ++ drop l.i l.initial.bytes
