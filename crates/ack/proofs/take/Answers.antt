-- `ack::take` meets its contract: a redirect, or what was assigned.
use mathlib.Core.Path.{sym, ◌∙◌}
use borrow.Author.Tests.{not-true, not-false}
use Rattle.ack.proofs.Laws.{taken-accepted, taken-redirected}
use Rattle.ack.proofs.take.Goals as goal

pub returns-then-not-learnt : goal.returns-then-not-learnt
returns-then-not-learnt c = c.accept.ensures ∙ sym (taken-accepted _ _ (not-true _ c.if-not-learnt.true))

pub returns : goal.returns
returns c = sym (taken-redirected _ _ (not-false _ c.if-not-learnt.false))
