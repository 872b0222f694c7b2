use Rattle.strips.proofs.Steps.{spotted}
use Rattle.strips.proofs.Spot.find.Goals as goal

pub returns : goal.returns
returns c =
    spotted c.args.memory.now c.args.count c.args.pixel c.seek-at.result c.front_len-old.result c.seek-tail.result c.requires c.seek-at.ensures.within c.seek-at.ensures.is c.front_len-old.ensures.is c.seek-tail.ensures.is c.seek-tail.ensures.within c.front_len-old.ensures.within
