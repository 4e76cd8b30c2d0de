-- Field by field.
use Rattle.std.proofs.Common.{refl}
use Rattle.buffer.proofs.Puts.{appended-most}
use Rattle.lister.proofs.Laws.{line-join}
use Rattle.lister.proofs.text.put_line.Goals as goal

pub put_reply-d-requires : goal.put_reply-d-requires
put_reply-d-requires c = appended-most c.put_field-c.ensures

pub returns : goal.returns
returns c = line-join _ _ _ c.put_field-a.ensures c.put_field-b.ensures refl c.put_field-c.ensures c.put_reply-d.ensures c.put.ensures
