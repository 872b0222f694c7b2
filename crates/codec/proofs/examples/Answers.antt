use Rattle.codec.proofs.examples.Goals as goal
use Rattle.codec.proofs.Theorems.{examples}

pub returns : goal.returns
returns c = examples
