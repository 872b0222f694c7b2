use Rattle.std.proofs.Common.{◌≡◌, count_by, ◌∙◌, rules}
use Rattle.rules.specs.Words.{is_corner}
use Rattle.drawings.proofs.Meetings.{corners_by}
use Rattle.drawings.proofs.reading.corners_in.Goals as goal

pub returns : goal.returns
returns c =
    let e : c.count.result ≡ count_by is_corner c.args.symbols.now = search rules in
    e ∙ corners_by c.args.symbols.now
