-- The values of document 01.
use Rattle.lister.specs.Line.{listed_device}
use Rattle.lister.proofs.device.Goals as goal

pub returns : goal.returns
unfolding listed_device
returns c = c.setup.ensures
