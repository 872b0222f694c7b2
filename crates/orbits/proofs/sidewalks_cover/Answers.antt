use Rattle.orbits.proofs.All.{covers}
use Rattle.orbits.proofs.sidewalks_cover.Goals as goal

pub returns : goal.returns
returns g c = covers _
