-- `state::setup::hash_of` meets its contract: the bytes are copied to the front of zeros.
use Rattle.state.specs.Setup.{hash_of}
use Rattle.state.proofs.setup.hash_of.Goals as goal

pub returns : goal.returns
unfolding hash_of
returns c = c.copy.ensures
