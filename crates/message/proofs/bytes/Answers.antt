-- `message::bytes` meets its contract: there is one where a field came.
use Rattle.std.proofs.Common.{rules}
use Rattle.message.specs.Read.{place_of}
use Rattle.message.proofs.bytes.Goals as goal

pub returns : goal.returns
unfolding place_of
returns c = search rules
