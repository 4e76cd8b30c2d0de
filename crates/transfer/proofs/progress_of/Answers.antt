-- `transfer::progress_of` meets its contract: there are no more blocks than bytes, so their number has 32 bits.
use Rattle.std.proofs.Common.{arith}
use Rattle.transfer.specs.Bitmap.{complete, progress_of}
use Rattle.transfer.proofs.Lengths.{blocks-most}
use Rattle.transfer.proofs.progress_of.Goals as goal

pub overflow_cast-result : goal.overflow_cast-result
overflow_cast-result c =
    let a = c.args.image in
    let m = blocks-most a.size a.block_size in
    let e = c.block_count-blocks.ensures in
    omega arith

pub returns : goal.returns
unfolding complete progress_of
returns c = rw c.block_count-blocks.ensures
