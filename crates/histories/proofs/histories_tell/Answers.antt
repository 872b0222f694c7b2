use Rattle.histories.proofs.Histories.{histories_tell}
use Rattle.histories.proofs.histories_tell.Goals as goal

pub returns : goal.returns
returns c = histories_tell
