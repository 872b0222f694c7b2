use Rattle.std.proofs.Common.{arith}
use Rattle.symbols.specs.Symbols.{road_code}
use Rattle.drawings.specs.Drawings.{crossings}
use Rattle.maps.proofs.Turning.{count_most}
use Rattle.darts.proofs.pixels.few_on.Goals as goal

pub returns-clause-few : goal.returns-clause-few
returns-clause-few c =
    let d = c.args.drawing.now in
    omega (arith, c.count_on.ensures, d.within, count_most (road_code c.args.road) (crossings d))
