-- `protobuf::put_head` meets its contract: the call appends what the definition says.
use Rattle.protobuf.specs.Write.{bytes_head}
use Rattle.protobuf.proofs.write.put_head.Goals as goal

pub returns : goal.returns
unfolding bytes_head
returns c = c.put_two.ensures
