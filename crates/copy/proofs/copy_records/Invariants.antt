-- `copy::copy_records` meets its contract: what was copied and what is left make all.
use Prim.Native.Nat.{◌-◌}
use mathlib.Core.Path.{◌≡◌}
use lib.ListN.{length}
use Rattle.copy.specs.Shown.{copies}
use Rattle.copy.proofs.Laws.{Going, copies_at}
use Rattle.copy.proofs.copy_records.Given as goal

abbrev pub invariant-loop-start : goal.invariant-loop-start
invariant-loop-start l = Going l.initial.out l.initial.end (copies l.s l.choice) l.out l.end (copies_at l.s l.choice l.start) × (length l.out ≡ length l.initial.out)

abbrev pub decreases-loop-start : goal.decreases-loop-start
decreases-loop-start l = length l.s - l.start
