-- `wait::rest_of` meets its contract: nothing below 0.
use mathlib.Core.Path.{sym}
use Rattle.registration.proofs.Waits.{rest-none, rest_some}
use Rattle.registration.proofs.wait.rest_of.Goals as goal

pub returns-then-interval-wait : goal.returns-then-interval-wait
returns-then-interval-wait c = sym (rest-none _ _ c.if-interval-wait.true)

pub returns : goal.returns
returns c = sym (rest_some _ _)
