use Rattle.std.proofs.Common.{◌≡◌, ◌+◌, take}
use Rattle.rules.specs.Crossings.{count_on}
use Rattle.drawings.proofs.questions.find_place.Given as goal

abbrev pub invariant-loop-i : goal.invariant-loop-i
invariant-loop-i l = l.left + count_on l.road (take l.i l.table) ≡ l.place
