-- `due::silent` meets its contract: the URL is empty.
use mathlib.Core.Path.{refl}
use Rattle.due.proofs.Laws.{silent-is}
use Rattle.due.proofs.silent.Goals as goal

pub returns : goal.returns
returns c = silent-is _ _ refl c.of-url.ensures
