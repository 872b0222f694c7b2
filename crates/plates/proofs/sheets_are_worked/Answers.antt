use Rattle.plates.proofs.Computed.{sheets_worked}
use Rattle.plates.proofs.sheets_are_worked.Goals as goal

pub returns : goal.returns
returns c = sheets_worked
