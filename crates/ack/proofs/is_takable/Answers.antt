-- `ack::is_takable` meets its contract: test by test.
use mathlib.Core.Path.{sym, ◌∙◌}
use borrow.Author.Tests.{not-true, not-false}
use Rattle.ack.proofs.Laws.{takable-unreadable, takable-unsigned, takable-expired, takable-placed}
use Rattle.ack.proofs.is_takable.Goals as goal

pub returns-then-not-learnt : goal.returns-then-not-learnt
returns-then-not-learnt c = sym (takable-unreadable _ _ _ (not-true _ c.if-not-learnt.true))

pub returns-then-badly_signed : goal.returns-then-badly_signed
returns-then-badly_signed c = sym (takable-unsigned _ _ _ (not-false _ c.if-not-learnt.false) (sym c.badly_signed.ensures ∙ c.if-badly_signed.true))

pub returns-then-learnt : goal.returns-then-learnt
returns-then-learnt c = sym (takable-expired _ _ _ (not-false _ c.if-not-learnt.false) (sym c.badly_signed.ensures ∙ c.if-badly_signed.false) c.if-learnt.true)

pub returns : goal.returns
returns c = c.either.ensures ∙ sym (takable-placed _ _ _ (not-false _ c.if-not-learnt.false) (sym c.badly_signed.ensures ∙ c.if-badly_signed.false) c.if-learnt.false)
