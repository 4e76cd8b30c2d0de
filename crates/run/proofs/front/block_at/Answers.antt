-- `run::front::block_at` meets its contract: the block read last says what its value says.
use Rattle.run.proofs.Fronts.{block_same}
use Rattle.run.proofs.front.block_at.Goals as goal

pub returns-then-looked-end : goal.returns-then-looked-end
returns-then-looked-end c =
    let a = c.args in
    block_same a.payload.now c.if-looked-start.true c.if-looked-end.true c.requires.2
