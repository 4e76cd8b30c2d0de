-- `waiting::take_out` meets its contract: each place of the four.
use native.Mathlib.Omega.{arith}
use Rattle.waiting.proofs.Laws.{without-first, without-second, without-third, without-last}
use Rattle.std.proofs.Common.{rules}
use Rattle.waiting.proofs.take_out.Goals as goal

pub returns-in-0 : goal.returns-in-0
returns-in-0 c = rw c.in-0.is (without-first _ (search rules))

pub returns-in-1 : goal.returns-in-1
returns-in-1 c = rw c.in-1.is (without-second _ (search rules))

pub returns-in-2 : goal.returns-in-2
returns-in-2 c = rw c.in-2.is (without-third _ (search rules))

pub returns-in_default : goal.returns-in_default
returns-in_default c = without-last _ (search rules) _ (omega arith)
