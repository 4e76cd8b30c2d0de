-- `copy::source` meets its contract: nothing, the agent's own, or the store.
use mathlib.Core.Path.{sym, ◌∙◌}
use Rattle.copy.proofs.Laws.{source-hidden, source-own, source-store}
use Rattle.copy.proofs.source.Goals as goal

pub returns-then-is_hidden : goal.returns-then-is_hidden
returns-then-is_hidden c = sym (source-hidden _ _ _ (sym c.is_hidden.ensures ∙ c.if-is_hidden.true))

pub returns-then-is_own : goal.returns-then-is_own
returns-then-is_own c = sym (source-own _ _ _ (sym c.is_hidden.ensures ∙ c.if-is_hidden.false) (sym c.is_own.ensures ∙ c.if-is_own.true))

pub returns : goal.returns
returns c = sym (source-store _ _ _ (sym c.is_hidden.ensures ∙ c.if-is_hidden.false) (sym c.is_own.ensures ∙ c.if-is_own.false))
