use Rattle.std.proofs.Common.{[], ◌∷◌, ◌++◌}
use Rattle.model.specs.Streets.{item}
use Rattle.streetlist.proofs.Putting.{put_then}
use Rattle.streetlist.proofs.text.Text.put_arrow.Goals as goal

pub returns-clause-puts : goal.returns-clause-puts
returns-clause-puts c =
    let d = item c.args.dart in
    let u = c.put_byte.new.self in
    let v = c.put_space.new.self in
    let w = c.put_dart.new.self in
    let x = c.put_byte-2.new.self in
    put_then (62 ∷ []) (32 ∷ (d ++ (10 ∷ []))) c.args.self.now u x c.put_byte.ensures
    (put_then (32 ∷ []) (d ++ (10 ∷ [])) u v x c.put_space.ensures
    (put_then d (10 ∷ []) v w x c.put_dart.ensures.puts c.put_byte-2.ensures))
