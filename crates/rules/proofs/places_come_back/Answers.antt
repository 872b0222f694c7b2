use Rattle.rules.proofs.places_come_back.Goals as goal
use Rattle.rules.proofs.Places.{places_come_back}

pub returns : goal.returns
returns c = places_come_back
