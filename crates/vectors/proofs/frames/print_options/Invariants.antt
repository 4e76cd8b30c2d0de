-- An option ends behind its start.
use Rattle.std.proofs.Common.{◌-◌, length}
use Rattle.vectors.proofs.frames.print_options.Given as goal

abbrev pub decreases-loop-o : goal.decreases-loop-o
decreases-loop-o g l = length l.s - l.at
