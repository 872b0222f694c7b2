use Rattle.orbits.proofs.All.{loops}
use Rattle.orbits.proofs.loops_part.Goals as goal

pub returns : goal.returns
returns g c = loops _
