-- `wait::advanced` meets its contract: the interval is the next one, and the largest stays.
use Rattle.registration.proofs.Waits.{advanced-is}
use Rattle.registration.proofs.wait.advanced.Goals as goal

pub returns : goal.returns
returns c = advanced-is _ _ c.double-next.ensures
