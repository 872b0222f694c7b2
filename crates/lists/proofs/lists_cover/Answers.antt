use Rattle.lists.proofs.Covering.{lists_cover}
use Rattle.lists.proofs.lists_cover.Goals as goal

pub returns : goal.returns
returns c = lists_cover
