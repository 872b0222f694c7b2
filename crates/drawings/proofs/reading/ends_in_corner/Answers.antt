use Rattle.std.proofs.Common.{false, length, ◌-◌, sym, ◌∙◌, arith}
use Rattle.drawings.proofs.Meetings.{ends_last}
use Rattle.drawings.proofs.reading.ends_in_corner.Goals as goal

pub returns-in-len1-up : goal.returns-in-len1-up
returns-in-len1-up c =
    c.is_corner.ensures ∙ sym (ends_last false c.args.symbols.now (length c.args.symbols.now - 1) (omega (arith, c.in-len1-up.len_at_least)))
