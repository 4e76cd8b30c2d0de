-- The sum stays below the modulus.
use Rattle.std.proofs.Common.{◌<◌}
use Rattle.lives.proofs.show.remainder.Given as goal

abbrev pub invariant-loop-b : goal.invariant-loop-b
invariant-loop-b l = l.sum < 65521
