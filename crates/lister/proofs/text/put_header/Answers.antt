-- Its letters.
use Rattle.lister.specs.Line.{header}
use Rattle.lister.proofs.text.put_header.Goals as goal

pub returns : goal.returns
unfolding header
returns c = c.put.ensures
