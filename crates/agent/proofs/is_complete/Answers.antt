-- `agent::is_complete` meets its contract: it is what progress tells of it.
use mathlib.Core.Path.{ap, ◌∙◌}
use Rattle.transfer.specs.declared.Progress.{Progress}
use Rattle.agent.proofs.Laws.{progress-complete}
use Rattle.agent.proofs.is_complete.Goals as goal

pub returns : goal.returns
returns c = ap (λ (p : Progress). p.complete) c.progress-told.ensures ∙ progress-complete _
