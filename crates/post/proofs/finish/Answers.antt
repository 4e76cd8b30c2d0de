-- `finish` meets its contract: the sealed sight beside the ImageBlock and its place.
use Rattle.post.proofs.finish.Goals as goal

pub returns : goal.returns
returns c = rw c.seal-seen.ensures
