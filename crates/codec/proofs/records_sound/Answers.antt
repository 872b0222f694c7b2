use Rattle.codec.proofs.records_sound.Goals as goal
use Rattle.codec.proofs.Theorems.{records_sound}

pub returns : goal.returns
returns c = records_sound
