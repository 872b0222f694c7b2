use Rattle.orbits.proofs.All.{listed_so}
use Rattle.orbits.proofs.lines_follow.Goals as goal

pub returns : goal.returns
returns g c = listed_so _
