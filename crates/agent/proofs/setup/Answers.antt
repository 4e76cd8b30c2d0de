-- `agent::setup` meets its contract: it is the state's.
use Rattle.agent.proofs.setup.Goals as goal

pub returns : goal.returns
returns c = c.set_up.ensures
