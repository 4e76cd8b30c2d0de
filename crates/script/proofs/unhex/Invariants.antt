-- `unhex` is safe: the output keeps its length.
use lib.ListN.{length}
use mathlib.Core.Path.{◌≡◌}
use Rattle.script.proofs.unhex.Given as goal

abbrev pub invariant-loop-n : goal.invariant-loop-n
invariant-loop-n l = length l.out ≡ length l.initial.out
