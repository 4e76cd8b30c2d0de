-- `step::is_request` meets its contract: each arm of the match is a list of types.
use mathlib.Core.Path.{sym}
use Rattle.step.proofs.Steps.{request-alone, request-69, request-other}
use native.Mathlib.Omega.{arith}
use Rattle.step.proofs.is_request.Goals as goal

pub returns-in-65 : goal.returns-in-65
returns-in-65 c = sym (request-alone _ c.in-65.is)

pub returns-in-69 : goal.returns-in-69
returns-in-69 c = sym (request-69 _ c.in-69.is)

pub returns-in_default : goal.returns-in_default
returns-in_default c = sym (request-other _ (λ h. omega arith) (λ h. omega arith))
