use Rattle.plain.proofs.accepted_changes.Goals as goal
use Rattle.plain.proofs.Steps.{accepted_changes}

pub returns : goal.returns
returns c = accepted_changes
