use Rattle.std.proofs.Common.{◌∙◌, ◌==◌, count_by, ap, arith}
use Rattle.std.proofs.lemmas.List.{take_all}
use Rattle.symbols.specs.declared.symbols.Crossing.{Crossing}
use Rattle.tables.proofs.Members.{size_by}
use Rattle.tables.proofs.groups.size.Goals as goal

pub returns : goal.returns
returns c =
    let t = c.args.table.now in
    c.loop-c.invariant.1 ∙ ap (count_by (λ (x : Crossing). x.group == c.args.g)) (take_all c.loop-c.c-index t (omega arith)) ∙ size_by c.args.g t
