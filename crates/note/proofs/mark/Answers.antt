-- `note::mark` meets its contract: one part changes.
use Rattle.note.proofs.mark.Goals as goal

pub returns : goal.returns
returns c = rw c.both.ensures
