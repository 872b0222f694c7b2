use Rattle.plain.proofs.last_accepted.Goals as goal
use Rattle.plain.proofs.Runs.{last_accepted_there}

pub returns : goal.returns
returns c = last_accepted_there
