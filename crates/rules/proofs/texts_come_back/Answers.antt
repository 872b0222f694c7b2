use Rattle.rules.proofs.texts_come_back.Goals as goal
use Rattle.rules.proofs.Texts.{texts_come_back}

pub returns : goal.returns
returns c = texts_come_back
