-- `wait::half_up` meets its contract: by arithmetic.
use Rattle.registration.proofs.Waits.{half-sum}
use Rattle.registration.proofs.wait.half_up.Goals as goal

pub returns : goal.returns
returns c = half-sum _
