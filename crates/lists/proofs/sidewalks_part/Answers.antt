use Rattle.lists.proofs.Covering.{sidewalks_part}
use Rattle.lists.proofs.sidewalks_part.Goals as goal

pub returns : goal.returns
returns c = sidewalks_part
