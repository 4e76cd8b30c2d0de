-- `note_block` meets its contract: an ImageBlock is one record more, and says only whether it can be read.
use Rattle.post.proofs.Laws.{noted-block}
use Rattle.post.proofs.note_block.Goals as goal

pub returns : goal.returns
returns c = λ g t v e. rw c.both.ensures (noted-block g t c.args.seen v c.args.block e)
