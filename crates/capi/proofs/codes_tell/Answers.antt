use Rattle.capi.proofs.Small.{codes_tell}
use Rattle.capi.proofs.codes_tell.Goals as goal

pub returns : goal.returns
returns c = codes_tell
