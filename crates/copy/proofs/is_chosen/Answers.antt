-- `copy::is_chosen` meets its contract: by the choice.
use Rattle.copy.proofs.Laws.{chosen-only, chosen-except}
use Rattle.copy.proofs.is_chosen.Goals as goal

pub returns-in-Only : goal.returns-in-Only
returns-in-Only c = chosen-only _ _ _ c.in-Only.is

pub returns-in-Except : goal.returns-in-Except
returns-in-Except c = chosen-except _ _ _ c.in-Except.is
