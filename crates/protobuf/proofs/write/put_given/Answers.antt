-- `protobuf::write::put_given` meets its contract: the definition at either case.
use Rattle.protobuf.specs.Write.{if_any}
use Rattle.protobuf.proofs.write.put_given.Goals as goal

pub returns-in_default : goal.returns-in_default
unfolding if_any
returns-in_default c = rw c.in_default.is c.put.ensures

pub returns : goal.returns
unfolding if_any
returns c = rw c.in-Some.is c.put_number.ensures
