-- `images::map_len` meets its contract: a byte for each eight blocks, rounded up.
use native.Mathlib.Omega.{arith}
use Rattle.images.specs.Images.{map_length}
use Rattle.images.proofs.Laws.{blocks-most}
use Rattle.images.proofs.map_len.Goals as goal

pub overflow_add-result : goal.overflow_add-result
overflow_add-result c = omega (arith, blocks-most _ _ _ c.block_count.ensures)

pub returns : goal.returns
unfolding map_length
returns c = rw c.block_count.ensures
