-- The next line begins behind this one's begin.
use Rattle.std.proofs.Common.{◌-◌, length}
use Rattle.bench.proofs.play.Given as goal

abbrev pub decreases-loop-at : goal.decreases-loop-at
decreases-loop-at g l = length l.s - l.at
