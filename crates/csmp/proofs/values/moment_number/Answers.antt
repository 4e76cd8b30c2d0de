-- `csmp::values::moment_number` meets its contract: the definition at either case.
use mathlib.Core.Path.{sym, ap}
use Rattle.csmp.specs.Values.{moment_number}
use Rattle.csmp.proofs.values.moment_number.Goals as goal

pub returns-in_default : goal.returns-in_default
unfolding moment_number
returns-in_default c = sym (ap moment_number c.in_default.is)

pub returns : goal.returns
unfolding moment_number
returns c = sym (ap moment_number c.in-Some.is)
