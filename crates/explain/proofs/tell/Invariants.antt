use Rattle.std.proofs.Common.{◌≡◌, ◌-◌, ◌++◌, string_bytes}
use Rattle.drawings.specs.Drawings.{crossings}
use Rattle.explain.specs.Explained.{lines, meaning}
use Rattle.explain.proofs.tell.Given as goal

abbrev pub invariant-loop-i : goal.invariant-loop-i
invariant-loop-i l = string_bytes l.text ++ lines (crossings l.d) (l.n - l.i) l.i ≡ meaning (crossings l.d)
