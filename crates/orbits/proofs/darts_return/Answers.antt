use Rattle.orbits.proofs.All.{return}
use Rattle.orbits.proofs.darts_return.Goals as goal

pub returns : goal.returns
returns g c = return _
