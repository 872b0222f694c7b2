use Rattle.codec.proofs.refusals_right.Goals as goal
use Rattle.codec.proofs.Theorems.{refusals_right}

pub returns : goal.returns
returns c = refusals_right
