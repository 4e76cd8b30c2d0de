-- `reply::put_acknowledgement` meets its contract: the head alone, or the head and the payload.
use Rattle.reply.proofs.Laws.{put-empty, put-filled}
use Rattle.reply.proofs.put_acknowledgement.Goals as goal

pub returns-then-body-eq0 : goal.returns-then-body-eq0
returns-then-body-eq0 c = put-empty _ _ _ c.if-body-eq0.true c.put_reply.ensures

pub returns : goal.returns
returns c = put-filled _ _ _ c.if-body-eq0.false c.put_reply-at.ensures c.put.ensures
