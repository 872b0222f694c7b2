use Rattle.std.proofs.Common.{◌∙◌}
use Rattle.tables.proofs.Members.{first_found}
use Rattle.tables.proofs.groups.first_record.Goals as goal

pub returns : goal.returns
returns c = c.unwrap_or.ensures ∙ first_found c.args.g c.args.table.now c.find_group.result c.find_group.ensures
