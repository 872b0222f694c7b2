use Rattle.std.proofs.Common.{◌∙◌}
use Rattle.drawings.proofs.Lasts.{found_below}
use Rattle.drawings.proofs.questions.last_below.Goals as goal

pub returns : goal.returns
returns c = c.unwrap_or.ensures ∙ found_below c.args.table.now c.args.g c.args.z c.args.n c.last_of.result c.requires c.last_of.ensures
