use Rattle.plates.proofs.Computed.{tables_worked}
use Rattle.plates.proofs.tables_are_worked.Goals as goal

pub returns : goal.returns
returns c = tables_worked
