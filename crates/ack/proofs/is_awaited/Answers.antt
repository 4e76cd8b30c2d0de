-- `ack::is_awaited` meets its contract: test by test.
use mathlib.Core.Path.{sym}
use borrow.Author.Tests.{not-true, not-false}
use Rattle.ack.proofs.Laws.{awaited-accepted, awaited-none, awaited-round}
use Rattle.ack.proofs.is_awaited.Goals as goal

pub returns-then-registration : goal.returns-then-registration
returns-then-registration c = sym (awaited-accepted _ _ c.if-registration.true)

pub returns-then-not-registration : goal.returns-then-not-registration
returns-then-not-registration c = sym (awaited-none _ _ c.if-registration.false (not-true _ c.if-not-registration.true))

pub returns : goal.returns
returns c = sym (awaited-round _ _ c.if-registration.false (not-false _ c.if-not-registration.false))
