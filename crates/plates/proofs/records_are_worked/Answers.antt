use Rattle.plates.proofs.Computed.{records_worked}
use Rattle.plates.proofs.records_are_worked.Goals as goal

pub returns : goal.returns
returns c = records_worked
