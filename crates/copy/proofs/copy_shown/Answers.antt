-- `copy::copy_shown` meets its contract: the records of the id from where they are.
use Rattle.copy.proofs.Laws.{shown}
use Rattle.copy.proofs.copy_shown.Goals as goal

pub returns : goal.returns
returns c = shown _ _ _ c.source.ensures c.copy_records.ensures
