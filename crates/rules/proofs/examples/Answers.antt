use Rattle.rules.proofs.examples.Goals as goal
use Rattle.rules.proofs.Correspondence.{examples}

pub returns : goal.returns
returns c = examples
