-- `note::nothing` meets its contract.
use mathlib.Core.Path.{refl}
use Rattle.note.proofs.nothing.Goals as goal

pub returns : goal.returns
returns c = refl
