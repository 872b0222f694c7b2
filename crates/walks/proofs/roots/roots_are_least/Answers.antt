use Rattle.walks.proofs.Least.{root_least}
use Rattle.walks.proofs.roots.roots_are_least.Goals as goal

pub returns : goal.returns
returns c = root_least
