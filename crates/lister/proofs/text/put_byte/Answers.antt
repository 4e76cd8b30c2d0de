-- Two digits.
use Rattle.lister.proofs.Laws.{byte_put}
use Rattle.lister.proofs.text.put_byte.Goals as goal

pub returns : goal.returns
returns c = byte_put _ c.digit.ensures c.digit-2.ensures c.put.ensures
