-- `waiting::over_at` meets its contract: its sum is that of the definition.
use mathlib.Core.Path.{refl}
use Rattle.waiting.specs.Waiting.{over_at}
use Rattle.waiting.proofs.over_at.Goals as goal

pub returns : goal.returns
unfolding over_at
returns c = refl
