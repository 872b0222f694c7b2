use Rattle.stores.proofs.Fronts.{Counted}
use Rattle.stores.proofs.bytes.front_len.Given as goal

abbrev pub invariant-loop-i : goal.invariant-loop-i
invariant-loop-i l = Counted l.bytes l.i l.corners
