-- `state::setup::only_running` meets its contract.
use Rattle.state.proofs.setup.only_running.Goals as goal

pub returns : goal.returns
returns c = rw (c.no_image.ensures, c.no_pending.ensures)
