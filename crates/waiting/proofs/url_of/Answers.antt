-- `waiting::url_of` meets its contract: a part of the lent buffer.
use Rattle.waiting.specs.Waiting.{url_in}
use Rattle.waiting.proofs.url_of.Goals as goal

pub returns : goal.returns
unfolding url_in
returns c = cc
