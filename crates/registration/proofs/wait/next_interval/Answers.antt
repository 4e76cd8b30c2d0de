-- `wait::next_interval` meets its contract: the schedule that the call of `advance` left has the interval behind.
use Rattle.std.proofs.Common.{ap, ◌∙◌}
use Rattle.registration.specs.declared.wait.Schedule.{Schedule}
use Rattle.registration.proofs.Waits.{advanced-interval}
use Rattle.registration.proofs.wait.next_interval.Goals as goal

pub returns : goal.returns
returns c = ap (λ (x : Schedule). x.interval) c.advance.ensures ∙ advanced-interval _
