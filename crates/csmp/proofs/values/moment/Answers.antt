-- `csmp::values::moment` meets its contract: the definition at either case.
use mathlib.Core.Path.{sym, ap}
use Rattle.csmp.specs.Values.{moment_of}
use Rattle.csmp.proofs.values.moment.Goals as goal

pub returns-in_default : goal.returns-in_default
unfolding moment_of
returns-in_default c = sym (ap moment_of c.in_default.is)

pub returns : goal.returns
unfolding moment_of
returns c = sym (ap moment_of c.in-Some.is)
