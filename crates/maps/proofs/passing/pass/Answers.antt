use Rattle.std.proofs.Common.{arith}
use Rattle.symbols.specs.Symbols.{road_code}
use Rattle.drawings.specs.Drawings.{crossings}
use Rattle.maps.proofs.Turning.{count_most}
use Rattle.maps.proofs.passing.pass.Goals as goal

pub place_across-requires : goal.place_across-requires
place_across-requires g c =
    let l = c.args.from.now in (
      omega (arith, c.count_on-here.ensures, l.there),
      omega (arith, l.drawing.within, c.count_on-here.ensures, count_most (road_code l.dart.road) (crossings l.drawing)),
    )
