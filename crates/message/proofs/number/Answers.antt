-- `message::number` meets its contract: there is one where a field came.
use Rattle.std.proofs.Common.{rules}
use Rattle.message.specs.Read.{number_of}
use Rattle.message.proofs.number.Goals as goal

pub returns : goal.returns
unfolding number_of
returns c = search rules
