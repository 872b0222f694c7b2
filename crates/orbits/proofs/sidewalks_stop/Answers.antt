use Rattle.orbits.proofs.All.{stops}
use Rattle.orbits.proofs.sidewalks_stop.Goals as goal

pub returns : goal.returns
returns g c = stops _
