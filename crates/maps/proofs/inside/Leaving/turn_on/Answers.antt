use Rattle.std.proofs.Common.{sym, ◌∙◌}
use Rattle.maps.proofs.Turning.{enters_in}
use Rattle.maps.proofs.inside.Leaving.turn_on.Goals as goal

pub through-requires : goal.through-requires
through-requires c = enters_in _ c.crossing.result _ (sym c.enters_at.ensures ∙ c.unwrap.ensures)
