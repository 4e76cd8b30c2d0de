-- `rounds::is_positive` meets its contract: absent, or by its length.
use Rattle.rounds.proofs.Laws.{positive-none, positive-some}
use Rattle.rounds.proofs.is_positive.Goals as goal

pub returns-in_default : goal.returns-in_default
returns-in_default c = positive-none _ c.in_default.is

pub returns : goal.returns
returns c = positive-some _ _ c.in-Some.is
