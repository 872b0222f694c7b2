use Rattle.std.proofs.Common.{Some, None}
use Rattle.drawings.proofs.Lasts.{found_from, to_the_end}
use Rattle.drawings.proofs.questions.first_from.Goals as goal

pub returns-in_default : goal.returns-in_default
returns-in_default c =
    let h = rw (to_the_end c.args.table.now c.args.from) at c.in_default.ensures in
    found_from c.args.table.now c.args.g c.args.z c.args.from None c.requires h

pub returns : goal.returns
returns c =
    let h = rw (to_the_end c.args.table.now c.args.from) at c.in-Some.ensures in
    found_from c.args.table.now c.args.g c.args.z c.args.from (Some c.in-Some.n) c.requires h
