-- `copy::is_own` meets its contract: the match tests the ids.
use mathlib.Core.Path.{sym}
use Rattle.std.proofs.Common.{arith}
use Rattle.copy.proofs.Laws.{own-one, own-other}
use Rattle.copy.proofs.is_own.Goals as goal

pub returns-in-13 : goal.returns-in-13
returns-in-13 c = sym (own-one _ c.in-13.is)

pub returns-in_default : goal.returns-in_default
returns-in_default c = sym (own-other _ (λ h. omega arith))
