use Rattle.std.proofs.Common.{sym, ap, ◌∙◌, arith}
use Rattle.drawings.specs.Drawings.{crossings, place_code}
use Rattle.maps.proofs.Turning.{place_low, place_there}
use Rattle.maps.proofs.inside.Leaving.through.Goals as goal

pub overflow_cast-result : goal.overflow_cast-result
overflow_cast-result c =
    let d = c.args.self.now.drawing in
    omega (arith, d.within, place_low (crossings d) c.args.crossing _ _ (ap place_code (sym c.unwrap-road.ensures) ∙ c.place_of.ensures))

pub returns-clause-there : goal.returns-clause-there
returns-clause-there c = place_there (crossings c.args.self.now.drawing) c.args.crossing _ _ (ap place_code (sym c.unwrap-road.ensures) ∙ c.place_of.ensures)
