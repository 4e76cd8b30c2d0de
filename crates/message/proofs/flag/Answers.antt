-- `message::flag` meets its contract: there is one where a field came.
use Rattle.std.proofs.Common.{rules}
use Rattle.message.specs.Read.{flag_of}
use Rattle.message.proofs.flag.Goals as goal

pub returns : goal.returns
unfolding flag_of
returns c = search rules
