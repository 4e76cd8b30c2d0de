-- `rounds::no_round` meets its contract: no waits.
use Rattle.rounds.proofs.no_round.Goals as goal

pub returns : goal.returns
returns c = rw c.silent-answer.ensures
