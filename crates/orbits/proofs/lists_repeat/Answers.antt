use Rattle.orbits.proofs.All.{pigeonhole}
use Rattle.orbits.proofs.lists_repeat.Goals as goal

pub returns : goal.returns
returns g c = pigeonhole _
