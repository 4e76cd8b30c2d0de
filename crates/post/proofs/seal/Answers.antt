-- `seal` meets its contract: only whether all can be read changes.
use Rattle.post.specs.Judge.{sealed}
use Rattle.post.proofs.seal.Goals as goal

pub returns : goal.returns
unfolding sealed
returns c = rw c.both.ensures
