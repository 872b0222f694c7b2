use Rattle.std.proofs.Common.{◌≡◌, ◌++◌, take, drop}
use Rattle.stores.specs.Bytes.{decoded}
use Rattle.stores.proofs.bytes.copy_word.Given as goal

abbrev pub invariant-loop-i : goal.invariant-loop-i
invariant-loop-i l = l.out ≡ take l.i (decoded l.bytes) ++ drop l.i l.initial.out
