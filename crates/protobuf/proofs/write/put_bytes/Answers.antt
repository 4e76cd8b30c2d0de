-- `protobuf::put_bytes` meets its contract: the call appends what the definition says.
use Rattle.protobuf.specs.Write.{bytes_field}
use Rattle.protobuf.proofs.write.put_bytes.Goals as goal

pub returns : goal.returns
unfolding bytes_field
returns c = c.put_delimited.ensures
