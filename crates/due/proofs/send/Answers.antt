-- `due::send` meets its contract: nothing was put, or what was put is sent.
use Rattle.due.proofs.Laws.{send-none, send-some}
use Rattle.due.proofs.send.Goals as goal

pub returns-then-len-eq0 : goal.returns-then-len-eq0
returns-then-len-eq0 c = λ g. send-none _ _ _ _ _ _ c.put_answer-len.ensures g c.if-len-eq0.true c.silent.ensures

pub returns : goal.returns
returns c = λ g. send-some _ _ _ _ _ _ c.put_answer-len.ensures g c.if-len-eq0.false c.take_id-registration.ensures c.url_of.ensures c.of-url.ensures
