use Rattle.lists.proofs.Telling.{lists_tell}
use Rattle.lists.proofs.lists_tell.Goals as goal

pub returns : goal.returns
returns c = lists_tell
