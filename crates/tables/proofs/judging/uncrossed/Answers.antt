use Rattle.std.proofs.lemmas.Bool.Decides.{Decides-at}
use Rattle.tables.proofs.Stacks.{stack_decides}
use Rattle.tables.proofs.judging.uncrossed.Goals as goal

pub returns : goal.returns
returns c = Decides-at _ _ c.nested.ensures (stack_decides c.args.table.now)
