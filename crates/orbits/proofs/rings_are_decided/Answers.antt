use Rattle.orbits.proofs.All.{rings_told}
use Rattle.orbits.proofs.rings_are_decided.Goals as goal

pub returns : goal.returns
returns g c = rings_told _
