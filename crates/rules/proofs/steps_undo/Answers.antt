use Rattle.rules.proofs.steps_undo.Goals as goal
use Rattle.rules.proofs.Correspondence.{steps_undo}

pub returns : goal.returns
returns c = steps_undo
