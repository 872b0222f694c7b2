use Rattle.orbits.proofs.All.{roots}
use Rattle.orbits.proofs.roots_tell.Goals as goal

pub returns : goal.returns
returns g c = roots _
