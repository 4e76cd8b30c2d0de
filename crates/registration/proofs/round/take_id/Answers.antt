-- `round::take_id` meets its contract: the next message id, and all else as it was.
use Rattle.registration.proofs.Rounds.{id-taken}
use Rattle.registration.proofs.round.take_id.Goals as goal

pub returns : goal.returns
returns c = id-taken _ _ c.next_id.ensures
