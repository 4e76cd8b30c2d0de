-- `wait::backoff` meets its contract: the remainder stays within the interval.
use Prim.Native.Nat.{◌+◌, ◌-◌}
use mathlib.Core.Path.{sym}
use native.Mathlib.Omega.{arith}
use Rattle.registration.proofs.Waits.{rem-most, rem_below, half-most, backoff-is}
use Rattle.registration.proofs.wait.backoff.Goals as goal

pub overflow_sub-rest : goal.overflow_sub-rest
overflow_sub-rest c = half-most _ _ c.half_up-half.ensures

pub overflow_cast-result-2 : goal.overflow_cast-result-2
overflow_cast-result-2 c = let z = rem-most c.args.random (c.args.interval.0 - c.half_up-half.result + 1) in omega (arith, c.ranges)

pub overflow_add-result : goal.overflow_add-result
overflow_add-result c = let h = half-most _ _ c.half_up-half.ensures in let r = rem_below c.args.random (c.args.interval.0 - c.half_up-half.result) in let k = c.struct_known-1.given in omega arith

pub returns : goal.returns
returns c = sym (backoff-is _ _ _ c.half_up-half.ensures)
