use Rattle.plain.proofs.examples.Goals as goal
use Rattle.plain.proofs.Runs.{examples}

pub returns : goal.returns
returns c = examples
