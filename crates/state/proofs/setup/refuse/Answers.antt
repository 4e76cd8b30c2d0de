-- `state::setup::refuse` meets its contract.
use Rattle.state.proofs.setup.refuse.Goals as goal

pub returns : goal.returns
returns c = rw c.blank-state.ensures
