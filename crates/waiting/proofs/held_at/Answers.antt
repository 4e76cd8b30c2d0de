-- `waiting::held_at` meets its contract: the bytes begin 128 behind the URL.
use native.Mathlib.Omega.{arith}
use Rattle.waiting.specs.Waiting.{held_at}
use Rattle.waiting.proofs.Laws.{url-most}
use Rattle.waiting.proofs.held_at.Goals as goal

pub overflow_add-result : goal.overflow_add-result
overflow_add-result c = let h = c.slot_at.ensures in let m = url-most c.args.slot in omega arith

pub returns : goal.returns
unfolding held_at
returns c = cc
