-- `csmp::values::at_most` meets its contract: the definition at either case; bytes that end before they start are none.
use mathlib.Core.Path.{sym, ap}
use Rattle.csmp.specs.Values.{at_most}
use Rattle.csmp.proofs.ValueLaws.{at-most-none}
use Rattle.csmp.proofs.values.at_most.Goals as goal

pub returns-in_default : goal.returns-in_default
unfolding at_most
returns-in_default c = sym (ap (at_most _) c.in_default.is)

pub returns-then-end-start : goal.returns-then-end-start
returns-then-end-start c = sym (at-most-none _ _ _ _ c.if-end-start.true c.in-Some.is)

pub returns : goal.returns
unfolding at_most
returns c = sym (ap (at_most _) c.in-Some.is)
