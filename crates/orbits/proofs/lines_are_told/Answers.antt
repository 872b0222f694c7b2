use Rattle.orbits.proofs.Twins.{twins}
use Rattle.orbits.proofs.lines_are_told.Goals as goal

pub returns : goal.returns
returns g c = twins _
