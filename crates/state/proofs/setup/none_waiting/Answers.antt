-- `state::setup::none_waiting` meets its contract: four places that are free.
use Rattle.state.proofs.setup.none_waiting.Goals as goal

pub returns : goal.returns
returns c = cc
