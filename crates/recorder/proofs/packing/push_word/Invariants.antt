use Rattle.std.proofs.Common.{◌≡◌, drop}
use Rattle.recorder.proofs.Bits.{putting}
use Rattle.recorder.proofs.packing.push_word.Given as goal

-- The symbols that are left lead where all of them lead.
abbrev pub invariant-loop-i : goal.invariant-loop-i
invariant-loop-i l = putting l.part l.n l.i (drop l.i l.word) ≡ putting l.initial.part l.n 0 l.word
