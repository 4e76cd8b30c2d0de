-- `varint::len` meets its contract: ten bytes, less one for every seven zeros at the top of their bits.
use Prim.Native.Nat.{ℕ, ◌≤◌}
use native.Mathlib.Omega.{arith}
use lib.Bits.{bit_or}
use lib.Count.{count_leading_zeros, leading_le}
use Rattle.varint.proofs.Laws.{varint-64}
use Rattle.varint.proofs.len.Goals as goal

few : (v : ℕ) → count_leading_zeros 64 (bit_or v 1) ≤ 64
few v = leading_le 64 _

pub overflow_add-zeros : goal.overflow_add-zeros
overflow_add-zeros c = omega (arith, few c.args.v)

pub overflow_cast-result : goal.overflow_cast-result
overflow_cast-result c = omega (arith, few c.args.v)

pub overflow_sub-result : goal.overflow_sub-result
overflow_sub-result c = omega (arith, few c.args.v)

pub returns : goal.returns
returns c = varint-64 c.args.v c.ranges.v.fits
