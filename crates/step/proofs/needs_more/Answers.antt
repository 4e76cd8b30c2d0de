-- `step::needs_more` meets its contract: a redirect, or what is answered.
use mathlib.Core.Path.{sym, ◌∙◌}
use Rattle.step.proofs.Steps.{more-redirect, more-request}
use Rattle.step.proofs.needs_more.Goals as goal

pub returns-then-kind-eq6 : goal.returns-then-kind-eq6
returns-then-kind-eq6 c = sym (more-redirect _ c.if-kind-eq6.true)

pub returns : goal.returns
returns c = c.is_request.ensures ∙ sym (more-request _ c.if-kind-eq6.false)
