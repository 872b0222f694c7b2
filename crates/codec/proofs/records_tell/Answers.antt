use Rattle.codec.proofs.records_tell.Goals as goal
use Rattle.codec.proofs.Theorems.{records_tell}

pub returns : goal.returns
returns c = records_tell
