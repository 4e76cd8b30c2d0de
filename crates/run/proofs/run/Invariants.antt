-- `run::run` meets its contract: what the records did so far and those from where the loop stands lead to what all of them do.
use Prim.Native.Nat.{◌+◌, ◌*◌, ◌-◌, ◌≤◌}
use mathlib.Core.Path.{◌≡◌}
use lib.ListN.{length}
use Rattle.step.specs.Step.{world_of}
use Rattle.run.specs.Run.{records_at}
use Rattle.run.proofs.Walk.{Going}
use Rattle.run.proofs.run.Given as goal

abbrev pub invariant-loop-at : goal.invariant-loop-at
invariant-loop-at l = (l.initial.ran.end + 48 * length (records_at l.payload l.from) ≤ length l.fn.out → Going l.device (world_of l.initial.ran l.fn.flash) l.payload l.from l.fn.out l.initial.ran.end l.at (world_of l.ran l.flash) l.out l.ran.end)
    × (length l.flash ≡ length l.fn.flash) × (length l.out ≡ length l.fn.out)

abbrev pub decreases-loop-at : goal.decreases-loop-at
decreases-loop-at l = length l.payload - l.at
