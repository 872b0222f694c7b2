use Rattle.plates.proofs.Computed.{words_worked}
use Rattle.plates.proofs.words_are_worked.Goals as goal

pub returns : goal.returns
returns c = words_worked
