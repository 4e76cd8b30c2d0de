-- `state::setup::first_state` meets its contract: each part is what its maker ensures.
use Rattle.state.specs.Setup.{first_state}
use Rattle.state.proofs.setup.first_state.Goals as goal

pub returns : goal.returns
unfolding first_state
returns c = cc
