use Rattle.std.proofs.Common.{◌≡◌, ◌-◌}
use Rattle.darts.specs.Rest.{still}
use Rattle.darts.proofs.leaving.LeavingIterator.next.Given as goal

-- What is to leave stays.
abbrev pub invariant-loop-self : goal.invariant-loop-self
invariant-loop-self l = still l.self ≡ still l.initial.self

abbrev pub decreases-loop-self : goal.decreases-loop-self
decreases-loop-self l = 4 - l.self.road
