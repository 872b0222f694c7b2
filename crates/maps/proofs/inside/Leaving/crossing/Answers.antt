use Rattle.std.proofs.Common.{sym, ◌∙◌}
use Rattle.rules.proofs.Places.{crossing_found}
use Rattle.maps.proofs.Turning.{crossing_there}
use Rattle.maps.proofs.inside.Leaving.crossing.Goals as goal

pub unwrap-requires : goal.unwrap-requires
unwrap-requires c = rw (c.crossing_at.ensures, c.from.ensures) (crossing_there _ _ _ c.args.self.now.there)

pub returns-clause-within : goal.returns-clause-within
returns-clause-within c = (crossing_found _ _ _ _ (sym c.crossing_at.ensures ∙ c.unwrap.ensures)).0
