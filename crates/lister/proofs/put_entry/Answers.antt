-- The call, then its line.
use Rattle.std.proofs.Common.{refl}
use Rattle.lister.specs.Line.{call_of}
use Rattle.lister.proofs.Laws.{reply-short, listed}
use Rattle.lister.proofs.put_entry.Goals as goal

pub put_line-len-requires : goal.put_line-len-requires
put_line-len-requires c = rw c.front.ensures (reply-short _ c.datagram-answer.ensures refl)

pub returns : goal.returns
unfolding call_of
returns c = listed _ c.datagram-answer.ensures refl _ c.front.ensures c.put_line-len.ensures
