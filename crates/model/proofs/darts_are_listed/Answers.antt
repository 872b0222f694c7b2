use Rattle.model.proofs.Listing.{darts_listed}
use Rattle.model.proofs.darts_are_listed.Goals as goal

pub returns : goal.returns
returns c = darts_listed
