-- `due::put_shown` meets its contract: the front of the body is what is put.
use Rattle.due.proofs.Laws.{put-records}
use Rattle.due.proofs.put_shown.Goals as goal

pub returns : goal.returns
returns c = put-records _ _ _ c.front.ensures c.put_answer.ensures
