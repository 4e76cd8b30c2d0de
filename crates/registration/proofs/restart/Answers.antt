-- `registration::restart` meets its contract: field by field.
use mathlib.Core.Path.{refl}
use Rattle.registration.specs.Redirect.{restarted}
use Rattle.registration.proofs.restart.Goals as goal

pub returns : goal.returns
unfolding restarted
returns c = refl
