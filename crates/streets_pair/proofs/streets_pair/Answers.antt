use Rattle.streets_pair.proofs.Streets.{streets_pair}
use Rattle.streets_pair.proofs.streets_pair.Goals as goal

pub returns : goal.returns
returns c = streets_pair
