use Rattle.walks.proofs.Least.{homeward}
use Rattle.walks.proofs.roots.walks_come_home.Goals as goal

pub returns : goal.returns
returns c = homeward
