-- `step::run_redirect` meets its contract: only the registration changes.
use Rattle.step.proofs.run_redirect.Goals as goal

pub returns : goal.returns
returns c = rw c.redirect-started.ensures
