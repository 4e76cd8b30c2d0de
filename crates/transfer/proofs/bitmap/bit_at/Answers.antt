-- `transfer::bitmap::bit_at` meets its contract: the weight is a power of two.
use Rattle.std.proofs.Common.{sym, pow_pos}
use Rattle.transfer.proofs.Bits.{bit-weight}
use Rattle.transfer.proofs.bitmap.bit_at.Goals as goal

pub nonzero_div-result : goal.nonzero_div-result
nonzero_div-result c = rw c.weight.ensures (pow_pos c.args.j)

pub returns : goal.returns
returns c = rw c.weight.ensures (sym (bit-weight _ _))
