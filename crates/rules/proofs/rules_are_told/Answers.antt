use Rattle.rules.proofs.rules_are_told.Goals as goal
use Rattle.rules.proofs.Rules.{rules_are_told}

pub returns : goal.returns
returns c = rules_are_told
