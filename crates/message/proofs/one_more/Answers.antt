-- `message::one_more` meets its contract.
use borrow.Author.Tests.{lt-ltb, le-ltb}
use Rattle.message.specs.Read.{count_more}
use Rattle.message.proofs.one_more.Goals as goal

pub returns-then-n-lt4294967295 : goal.returns-then-n-lt4294967295
unfolding count_more
returns-then-n-lt4294967295 c = rw (lt-ltb _ _ c.if-n-lt4294967295.true)

pub returns : goal.returns
unfolding count_more
returns c = rw (le-ltb _ _ c.if-n-lt4294967295.false)
