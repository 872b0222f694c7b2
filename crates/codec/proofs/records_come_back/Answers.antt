use Rattle.codec.proofs.records_come_back.Goals as goal
use Rattle.codec.proofs.Theorems.{records_come_back}

pub returns : goal.returns
returns c = records_come_back
