use Rattle.std.proofs.Common.{ℕ, ltb, get_or, ap, ◌∙◌}
use Rattle.tables.proofs.Members.{goes_on_at}
use Rattle.tables.proofs.groups.goes_on.Goals as goal

pub returns : goal.returns
returns c =
    let xs = c.args.firsts.now in
    let lasts = c.args.lasts.now in
    let k = c.args.k in
    ap (ltb k) (c.from.ensures ∙ ap (λ (x : ℕ). get_or lasts x 0) c.from-g.ensures) ∙ goes_on_at xs lasts k c.requires.0 c.requires.2
