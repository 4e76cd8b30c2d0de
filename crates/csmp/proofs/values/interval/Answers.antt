-- `csmp::values::interval` meets its contract: the definition at either case.
use mathlib.Core.Path.{sym, ap}
use Rattle.csmp.specs.Values.{interval_of}
use Rattle.csmp.proofs.values.interval.Goals as goal

pub returns-in_default : goal.returns-in_default
unfolding interval_of
returns-in_default c = sym (ap interval_of c.in_default.is)

pub returns : goal.returns
unfolding interval_of
returns c = sym (ap interval_of c.in-Some.is)
