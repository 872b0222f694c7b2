use Rattle.codec.proofs.runs_whole.Goals as goal
use Rattle.codec.proofs.Theorems.{runs_whole}

pub returns : goal.returns
returns c = runs_whole
