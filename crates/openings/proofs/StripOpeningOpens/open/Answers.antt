use Rattle.std.proofs.Common.{vec_items, ap}
use Rattle.openings.proofs.Runs.{either, strip_within, strip_without}
use Rattle.openings.proofs.StripOpeningOpens.open.Goals as goal

pub returns : goal.returns
returns c =
    let o = c.args.self in
    either _ _ _ _
    (λ s p. strip_within o.memory.len o.width o.height _ s.memory.len p.0 p.1 p.2)
    (λ e p. (strip_without o.memory.len o.width o.height p.2, p.0, ap vec_items p.1))
    c.open.result c.open.ensures
