use Rattle.rules.proofs.drawings_are_told.Goals as goal
use Rattle.rules.proofs.Correspondence.{drawings_are_told}

pub returns : goal.returns
returns c = drawings_are_told
