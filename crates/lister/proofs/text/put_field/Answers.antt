-- A number, then a blank.
use Rattle.lister.proofs.Laws.{field-join}
use Rattle.lister.proofs.text.put_field.Goals as goal

pub returns : goal.returns
returns c = field-join _ c.put-end.ensures c.put.ensures
