-- `transfer::block::fits_at` meets its contract: the number is tested first.
use Rattle.std.proofs.Common.{eqb, sym, ap, ◌∙◌, arith}
use Rattle.transfer.proofs.BlockLaws.{fits-beyond, fits-length}
use Rattle.transfer.proofs.block.fits_at.Goals as goal

pub returns-then-block_count-n : goal.returns-then-block_count-n
returns-then-block_count-n c = sym (fits-beyond _ _ _ _ (omega arith))

pub returns : goal.returns
returns c = ap (eqb _) c.block_len.ensures ∙ sym (fits-length _ _ _ _ (omega arith))
