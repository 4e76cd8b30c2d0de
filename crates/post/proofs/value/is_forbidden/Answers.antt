-- `value::is_forbidden` meets its contract: each way through the match is a range of types.
use mathlib.Core.Path.{sym}
use native.Mathlib.Omega.{arith}
use Rattle.post.proofs.Laws.{forbidden-alone, forbidden-8, forbidden-71-to-75, free-below-71, free-from-76}
use Rattle.post.proofs.value.is_forbidden.Goals as goal

pub returns-in-7 : goal.returns-in-7
returns-in-7 c = sym (forbidden-alone _ c.in-7.is)

pub returns-in-8 : goal.returns-in-8
returns-in-8 c = sym (forbidden-8 _ c.in-8.is)

pub returns-in-71-to-75 : goal.returns-in-71-to-75
returns-in-71-to-75 c = sym (forbidden-71-to-75 c.args.kind (λ h. omega arith) (λ h. omega arith) (omega arith) (omega arith))

pub returns-in_default : goal.returns-in_default
returns-in_default c = sym (free-below-71 c.args.kind (λ h. omega arith) (λ h. omega arith) (omega arith))

pub returns-in_default-2 : goal.returns-in_default-2
returns-in_default-2 c = sym (free-from-76 c.args.kind (λ h. omega arith) (λ h. omega arith) (omega arith))
