use Rattle.std.proofs.Common.{[], ◌∷◌}
use Rattle.model.specs.Streets.{item}
use Rattle.streetlist.proofs.Putting.{put_then}
use Rattle.streetlist.proofs.text.Text.put_item.Goals as goal

pub returns-clause-puts : goal.returns-clause-puts
returns-clause-puts c = put_then (item c.args.dart) (32 ∷ []) c.args.self.now c.put_dart.new.self c.put_space.new.self c.put_dart.ensures.puts c.put_space.ensures
