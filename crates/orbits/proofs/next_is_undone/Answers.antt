use Rattle.orbits.proofs.All.{undone}
use Rattle.orbits.proofs.next_is_undone.Goals as goal

pub returns : goal.returns
returns g c = undone _
