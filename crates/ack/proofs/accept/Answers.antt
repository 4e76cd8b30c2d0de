-- `ack::accept` meets its contract: part by part.
use mathlib.Core.Path.{refl}
use Rattle.ack.specs.Take.{accepted_by}
use Rattle.ack.proofs.accept.Goals as goal

pub returns : goal.returns
unfolding accepted_by
returns c = refl
