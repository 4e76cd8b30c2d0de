-- `message::wire_of` meets its contract.
use borrow.Author.Tests.{lt-ltb, le-ltb}
use Rattle.message.specs.Read.{wire_of}
use Rattle.message.proofs.wire_of.Goals as goal

pub returns-then-kind-lt8 : goal.returns-then-kind-lt8
unfolding wire_of
returns-then-kind-lt8 c = rw (lt-ltb _ _ c.if-kind-lt8.true)

pub returns : goal.returns
unfolding wire_of
returns c = rw (le-ltb _ _ c.if-kind-lt8.false)
