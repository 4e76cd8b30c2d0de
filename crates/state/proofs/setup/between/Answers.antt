-- `state::setup::between` meets its contract.
use borrow.Author.Tests.{lt-leb, le-leb}
use Rattle.state.specs.Setup.{within}
use Rattle.state.proofs.setup.between.Goals as goal

pub returns-then-n-low : goal.returns-then-n-low
unfolding within
returns-then-n-low c = let a = c.args in rw (lt-leb a.low a.n c.if-n-low.true)

pub returns : goal.returns
unfolding within
returns c = let a = c.args in rw (le-leb a.low a.n c.if-n-low.false)
