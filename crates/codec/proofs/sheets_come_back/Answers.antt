use Rattle.codec.proofs.sheets_come_back.Goals as goal
use Rattle.codec.proofs.Theorems.{sheets_come_back}

pub returns : goal.returns
returns c = sheets_come_back
