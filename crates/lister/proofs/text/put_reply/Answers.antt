-- A dash, or hex.
use Rattle.lister.proofs.Laws.{reply-none, reply-some}
use Rattle.lister.proofs.text.put_reply.Goals as goal

pub returns-then-s-eq0 : goal.returns-then-s-eq0
returns-then-s-eq0 c = reply-none _ c.if-s-eq0.true c.put.ensures

pub returns : goal.returns
returns c = reply-some _ c.if-s-eq0.false c.put_hex.ensures
