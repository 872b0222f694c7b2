use Rattle.plates.proofs.Computed.{plates_shown}
use Rattle.plates.proofs.plates_are_shown.Goals as goal

pub returns : goal.returns
returns c = plates_shown
