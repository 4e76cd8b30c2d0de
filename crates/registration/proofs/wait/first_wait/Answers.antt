-- `wait::first_wait` meets its contract: none, or a remainder.
use Prim.Native.Nat.{◌+◌}
use mathlib.Core.Path.{sym}
use native.Mathlib.Omega.{arith}
use Rattle.registration.proofs.Waits.{wait-none, wait-some, rem-most}
use Rattle.registration.proofs.wait.first_wait.Goals as goal

pub returns-then-registration : goal.returns-then-registration
returns-then-registration c = sym (wait-none _ _ _ c.if-registration.true)

pub overflow_cast-result-2 : goal.overflow_cast-result-2
overflow_cast-result-2 c = let z = rem-most c.args.random (c.args.device.interval_min.0 + 1) in omega (arith, c.ranges)

pub returns : goal.returns
returns c = sym (wait-some _ _ _ c.if-registration.false)
