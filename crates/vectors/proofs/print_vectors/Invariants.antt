-- A record ends behind its start.
use Rattle.std.proofs.Common.{◌-◌, length}
use Rattle.vectors.proofs.print_vectors.Given as goal

abbrev pub decreases-loop-at : goal.decreases-loop-at
decreases-loop-at g l = length l.s - l.at
