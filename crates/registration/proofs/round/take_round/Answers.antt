-- `round::take_round` meets its contract: awaited, the next message id, the next interval.
use Rattle.registration.proofs.Rounds.{round-taken}
use Rattle.registration.proofs.round.take_round.Goals as goal

pub returns : goal.returns
returns c = round-taken _ _ _ _ c.take_id-next.ensures c.next_interval-interval.ensures
