-- `waiting::wait_of` meets its contract: the remainder is below the modulus.
use mathlib.Core.Path.{refl}
use native.Mathlib.Omega.{arith}
use Rattle.waiting.specs.Waiting.{wait_of}
use Rattle.waiting.proofs.Laws.{wait-most}
use Rattle.waiting.proofs.wait_of.Goals as goal

pub overflow_cast-result-3 : goal.overflow_cast-result-3
overflow_cast-result-3 c = let h = wait-most c.args.random c.args.most in omega arith

pub returns : goal.returns
unfolding wait_of
returns c = refl
