-- `message::first_of` meets its contract: a varint's number, or where bytes start.
use borrow.Author.Tests.{eq-eqb, ne_eqb}
use Rattle.message.specs.Read.{first_of}
use Rattle.message.proofs.first_of.Goals as goal

pub returns-then-f-eq0 : goal.returns-then-f-eq0
unfolding first_of
returns-then-f-eq0 c = rw (eq-eqb _ _ c.if-f-eq0.true)

pub returns : goal.returns
unfolding first_of
returns c = rw (ne_eqb _ _ c.if-f-eq0.false)
