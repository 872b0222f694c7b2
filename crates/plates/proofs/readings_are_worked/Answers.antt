use Rattle.plates.proofs.Computed.{readings_worked}
use Rattle.plates.proofs.readings_are_worked.Goals as goal

pub returns : goal.returns
returns c = readings_worked
