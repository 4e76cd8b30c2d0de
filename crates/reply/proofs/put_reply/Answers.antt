-- `reply::put_reply` meets its contract: by the type of what is answered.
use Rattle.reply.proofs.Laws.{reply-con, reply-non}
use Rattle.reply.proofs.put_reply.Goals as goal

pub returns-then-kind-ne0 : goal.returns-then-kind-ne0
returns-then-kind-ne0 c = reply-non _ _ _ _ c.if-kind-ne0.true

pub returns : goal.returns
returns c = reply-con _ _ _ _ c.if-kind-ne0.false c.put_acknowledgement.ensures
