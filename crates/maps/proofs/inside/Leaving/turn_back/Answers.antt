use Rattle.std.proofs.Common.{sym, ◌∙◌}
use Rattle.maps.proofs.Turning.{leaves_in}
use Rattle.maps.proofs.inside.Leaving.turn_back.Goals as goal

pub through-requires : goal.through-requires
through-requires c = leaves_in _ c.crossing.result _ (sym c.leaves_at.ensures ∙ c.unwrap.ensures)
