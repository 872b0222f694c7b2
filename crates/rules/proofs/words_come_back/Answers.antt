use Rattle.rules.proofs.words_come_back.Goals as goal
use Rattle.rules.proofs.Correspondence.{words_come_back}

pub returns : goal.returns
returns c = words_come_back
