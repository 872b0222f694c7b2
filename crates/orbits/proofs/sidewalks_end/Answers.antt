use Rattle.orbits.proofs.All.{walks}
use Rattle.orbits.proofs.sidewalks_end.Goals as goal

pub returns : goal.returns
returns g c = walks _
