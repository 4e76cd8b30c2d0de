-- What `specs/Statements.antt` states of the transfer.
use Rattle.std.proofs.Common.{refl}
use Rattle.transfer.specs.Bitmap.{raised, marked}
use Rattle.transfer.specs.Blocks.{blocks, block_length}
use Rattle.transfer.specs.Statements.{Samples, samples}

pub samples-hold : Samples
unfolding samples blocks block_length marked raised
samples-hold = refl
