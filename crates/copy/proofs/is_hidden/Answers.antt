-- `copy::is_hidden` meets its contract: the match tests the ids.
use mathlib.Core.Path.{sym}
use Rattle.std.proofs.Common.{arith}
use Rattle.copy.proofs.Laws.{hidden-one, hidden-2, hidden-other}
use Rattle.copy.proofs.is_hidden.Goals as goal

pub returns-in-1 : goal.returns-in-1
returns-in-1 c = sym (hidden-one _ c.in-1.is)

pub returns-in-2 : goal.returns-in-2
returns-in-2 c = sym (hidden-2 _ c.in-2.is)

pub returns-in_default : goal.returns-in_default
returns-in_default c = sym (hidden-other _ (λ h. omega arith) (λ h. omega arith))
