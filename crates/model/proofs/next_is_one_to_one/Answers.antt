use Rattle.model.proofs.Passing.{next_one_to_one}
use Rattle.model.proofs.next_is_one_to_one.Goals as goal

pub returns : goal.returns
returns c = next_one_to_one
