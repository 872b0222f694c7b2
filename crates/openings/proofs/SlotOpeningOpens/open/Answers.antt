use Rattle.std.proofs.Common.{vec_items, ap}
use Rattle.openings.proofs.Runs.{either, slots_within, slots_without}
use Rattle.openings.proofs.SlotOpeningOpens.open.Goals as goal

pub returns : goal.returns
returns c =
    let o = c.args.self in
    either _ _ _ _
    (λ s p. slots_within o.memory.len o.width o.height o.slot _ s.slot p.0 p.1 p.2)
    (λ e p. (slots_without o.memory.len o.width o.height o.slot p.0, p.1, ap vec_items p.2))
    c.open.result c.open.ensures
