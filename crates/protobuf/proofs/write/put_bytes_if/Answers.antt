-- `protobuf::write::put_bytes_if` meets its contract: the definition at either case.
use Rattle.protobuf.specs.Write.{if_any}
use Rattle.protobuf.proofs.write.put_bytes_if.Goals as goal

pub returns-then-given : goal.returns-then-given
unfolding if_any
returns-then-given c = rw c.if-given.true c.put_bytes.ensures

pub returns : goal.returns
unfolding if_any
returns c = rw c.if-given.false c.put.ensures
