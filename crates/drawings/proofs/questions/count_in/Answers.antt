use Rattle.std.proofs.Common.{◌≡◌, count_by, ◌==◌, ◌∙◌, rules}
use Rattle.symbols.specs.declared.symbols.Crossing.{Crossing}
use Rattle.drawings.proofs.Counting.{count_by_on}
use Rattle.drawings.proofs.questions.count_in.Goals as goal

pub returns : goal.returns
returns c =
    let e : c.count.result ≡ count_by (λ (x : Crossing). x.road == c.args.road) c.args.table.now = search rules in
    e ∙ count_by_on c.args.road c.args.table.now
