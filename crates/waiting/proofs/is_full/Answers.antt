-- `waiting::is_full` meets its contract: its test is that of the definition.
use mathlib.Core.Path.{refl}
use Rattle.waiting.specs.Waiting.{is_full}
use Rattle.waiting.proofs.is_full.Goals as goal

pub returns : goal.returns
unfolding is_full
returns c = refl
