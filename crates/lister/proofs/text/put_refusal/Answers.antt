-- Field by field.
use Rattle.lister.proofs.Laws.{refusal-join}
use Rattle.lister.proofs.text.put_refusal.Goals as goal

pub returns : goal.returns
returns c = refusal-join _ c.put-start.ensures c.put_field-mid.ensures c.put_field-last.ensures c.put.ensures
