-- `rounds::begin_round` meets its contract: call by call.
use Rattle.rounds.proofs.Laws.{round_is}
use Rattle.rounds.proofs.begin_round.Goals as goal

pub returns : goal.returns
returns c = round_is _ _ _ c.take_round-registration.ensures c.sent-answer.ensures c.backoff-backoff.ensures c.rest_of-rest.ensures
