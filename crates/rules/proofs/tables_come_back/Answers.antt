use Rattle.rules.proofs.tables_come_back.Goals as goal
use Rattle.rules.proofs.Correspondence.{tables_come_back}

pub returns : goal.returns
returns c = tables_come_back
