use Rattle.model.proofs.Passing.{opposite_undone}
use Rattle.model.proofs.opposite_is_undone.Goals as goal

pub returns : goal.returns
returns c = opposite_undone
