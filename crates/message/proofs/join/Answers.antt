-- `message::join` meets its contract.
use Rattle.message.proofs.join.Goals as goal

pub returns : goal.returns
returns c = rw (c.either-2.ensures, c.either.ensures, c.both.ensures)
