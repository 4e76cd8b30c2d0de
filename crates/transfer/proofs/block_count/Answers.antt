-- `transfer::block_count` meets its contract: a division by 0 is 0.
use Rattle.std.proofs.Common.{sym, refl}
use Rattle.transfer.specs.Blocks.{blocks}
use Rattle.transfer.proofs.Lengths.{blocks-none}
use Rattle.transfer.proofs.block_count.Goals as goal

pub returns-then-block_size-eq0 : goal.returns-then-block_size-eq0
returns-then-block_size-eq0 c = sym (blocks-none _ _ c.if-block_size-eq0.true)

pub returns : goal.returns
unfolding blocks
returns c = refl
