use Rattle.model.proofs.Listing.{next_returns}
use Rattle.model.proofs.next_returns.Goals as goal

pub returns : goal.returns
returns c = next_returns
