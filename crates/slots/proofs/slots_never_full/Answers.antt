use Rattle.slots.specs.Places.{never_refused}
use Rattle.slots.proofs.slots_never_full.Goals as goal

pub returns : goal.returns
returns c = never_refused
