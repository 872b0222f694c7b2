use Rattle.plain.proofs.runs_keep.Goals as goal
use Rattle.plain.proofs.Runs.{runs_keep}

pub returns : goal.returns
returns c = runs_keep
