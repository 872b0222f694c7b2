use Rattle.orbits.proofs.All.{tells}
use Rattle.orbits.proofs.lines_tell.Goals as goal

pub returns : goal.returns
returns g c = tells _
