use Rattle.std.proofs.Common.{[], ◌∷◌, decimal}
use Rattle.symbols.specs.Symbols.{road_letter}
use Rattle.streetlist.proofs.Putting.{put_then}
use Rattle.streetlist.proofs.text.Text.put_dart.Goals as goal

pub returns-clause-puts : goal.returns-clause-puts
returns-clause-puts c =
    let d = c.args.dart in
    let u = c.put_number.new.self in
    let v = c.put_road.new.self in
    let w = c.put_place.new.self in
    put_then (decimal d.pixel) (road_letter d.road ∷ decimal d.place) c.args.self.now u w c.put_number.ensures.puts
    (put_then (road_letter d.road ∷ []) (decimal d.place) u v w c.put_road.ensures c.put_place.ensures.puts)
