use Rattle.lists.proofs.Texts.{texts_tell}
use Rattle.lists.proofs.texts_tell.Goals as goal

pub returns : goal.returns
returns c = texts_tell
