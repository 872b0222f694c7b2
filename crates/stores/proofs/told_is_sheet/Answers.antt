use Rattle.stores.proofs.Writes.{told_sheetly}
use Rattle.stores.proofs.told_is_sheet.Goals as goal

pub returns : goal.returns
returns c = told_sheetly
