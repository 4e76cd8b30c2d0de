-- `agent::refuse_padding` meets its contract: one part of the device changes.
use mathlib.Core.Path.{refl}
use Rattle.calls.specs.Padding.{refusing_padding}
use Rattle.agent.proofs.refuse_padding.Goals as goal

pub returns : goal.returns
unfolding refusing_padding
returns c = refl
