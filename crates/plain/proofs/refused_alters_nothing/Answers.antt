use Rattle.plain.proofs.refused_alters_nothing.Goals as goal
use Rattle.plain.proofs.Steps.{refused_alters_nothing}

pub returns : goal.returns
returns c = refused_alters_nothing
