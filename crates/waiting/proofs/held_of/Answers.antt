-- `waiting::held_of` meets its contract: a part of the lent buffer.
use Rattle.waiting.specs.Waiting.{held_in}
use Rattle.waiting.proofs.held_of.Goals as goal

pub returns : goal.returns
unfolding held_in
returns c = cc
