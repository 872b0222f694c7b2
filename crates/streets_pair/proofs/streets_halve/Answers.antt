use Rattle.streets_pair.proofs.Streets.{streets_halve}
use Rattle.streets_pair.proofs.streets_halve.Goals as goal

pub returns : goal.returns
returns c = streets_halve
