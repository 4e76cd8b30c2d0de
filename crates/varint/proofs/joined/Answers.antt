-- `varint::joined` meets its contract: a step of the definition at each answer.
use mathlib.Core.Path.{sym, ap}
use native.Mathlib.Omega.{arith}
use Rattle.std.proofs.Common.{rules}
use Rattle.varint.specs.Varint.{more}
use Rattle.varint.proofs.joined.Goals as goal

pub returns-in_err-rest : goal.returns-in_err-rest
unfolding more
returns-in_err-rest c = search rules

pub overflow_mul-result : goal.overflow_mul-result
overflow_mul-result c = omega (arith, c.requires _ _ _ c.in_ok-rest.was)

pub overflow_add-result : goal.overflow_add-result
overflow_add-result c = omega (arith, c.requires _ _ _ c.in_ok-rest.was)

pub returns : goal.returns
unfolding more
returns c = rw c.either.ensures (sym (ap (more c.args.b) c.in_ok-rest.was))
