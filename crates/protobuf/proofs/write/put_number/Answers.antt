-- `protobuf::put_number` meets its contract: the call appends what the definition says.
use Rattle.protobuf.specs.Write.{number_field}
use Rattle.protobuf.proofs.write.put_number.Goals as goal

pub returns : goal.returns
unfolding number_field
returns c = c.put_two.ensures
