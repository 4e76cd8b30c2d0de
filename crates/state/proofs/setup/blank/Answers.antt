-- `state::setup::blank` meets its contract.
use Rattle.state.specs.Setup.{blank_state}
use Rattle.state.proofs.setup.blank.Goals as goal

pub returns : goal.returns
unfolding blank_state
returns c = c.first_state.ensures
