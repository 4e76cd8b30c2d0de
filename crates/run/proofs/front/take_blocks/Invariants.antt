-- `run::front::take_blocks` meets its contract: the blocks before where the loop stands ran, and what is left leads to what all records lead to.
use Prim.Native.Nat.{◌-◌}
use mathlib.Core.Path.{◌≡◌}
use lib.ListN.{length}
use Rattle.state.specs.declared.Images.{Images}
use Rattle.transfer.specs.Block.{Parts}
use Rattle.run.specs.Front.{FrontBy, with_blocks}
use Rattle.run.proofs.front.take_blocks.Given as goal

abbrev pub invariant-loop-at : goal.invariant-loop-at
invariant-loop-at l = ((i : Images) → i.«open» ≡ l.«open» → i.image.hash ≡ l.hash → Parts i.image l.size l.block_size l.fn.map l.first → FrontBy i l.fn.flash l.payload (with_blocks i l.map l.held) l.at l.flash)
    × (length l.flash ≡ length l.fn.flash)

abbrev pub decreases-loop-at : goal.decreases-loop-at
decreases-loop-at l = length l.payload - l.at
