-- `state::setup::none_assigned` meets its contract.
use Rattle.state.proofs.setup.none_assigned.Goals as goal

pub returns : goal.returns
returns c = rw (c.empty.ensures, c.no_groups.ensures, c.of.ensures)
