use Rattle.plain.proofs.words_counted.Goals as goal
use Rattle.plain.proofs.Offers.{words_counted}

pub returns : goal.returns
returns c = words_counted
