-- `message::limit` meets its contract.
use Rattle.message.proofs.limit.Goals as goal

pub returns : goal.returns
returns c = rw c.both.ensures
