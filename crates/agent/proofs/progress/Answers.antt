-- `agent::progress` meets its contract: of an image that is not open nothing is told.
use mathlib.Core.Path.{sym, ◌∙◌}
use borrow.Author.Tests.{not-true, not-false}
use Rattle.agent.proofs.Laws.{progress-closed, progress-open}
use Rattle.agent.proofs.progress.Goals as goal

pub returns-then-not-state : goal.returns-then-not-state
returns-then-not-state c = sym (progress-closed _ (not-true _ c.if-not-state.true))

pub returns : goal.returns
returns c = c.progress_of.ensures ∙ sym (progress-open _ (not-false _ c.if-not-state.false))
