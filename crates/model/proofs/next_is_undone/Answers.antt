use Rattle.model.proofs.Passing.{next_undone}
use Rattle.model.proofs.next_is_undone.Goals as goal

pub returns : goal.returns
returns c = next_undone
