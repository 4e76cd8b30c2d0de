-- `csmp::values::interval_number` meets its contract: the definition at either case.
use mathlib.Core.Path.{sym, ap}
use Rattle.csmp.specs.Values.{interval_number}
use Rattle.csmp.proofs.values.interval_number.Goals as goal

pub returns-in_default : goal.returns-in_default
unfolding interval_number
returns-in_default c = sym (ap interval_number c.in_default.is)

pub returns : goal.returns
unfolding interval_number
returns c = sym (ap interval_number c.in-Some.is)
