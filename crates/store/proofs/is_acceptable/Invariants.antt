-- `is_acceptable` meets its contract: what was seen and the records from where the loop stands make the whole store's answer.
use Prim.Native.Nat.{◌-◌, ◌≤◌}
use mathlib.Core.Path.{◌≡◌}
use lib.ListN.{length}
use Rattle.store.specs.Store.{acceptable}
use Rattle.store.proofs.Laws.{accepted_from}
use Rattle.store.proofs.is_acceptable.Given as goal

abbrev pub invariant-loop-at : goal.invariant-loop-at
invariant-loop-at l = (acceptable l.s ≡ accepted_from l.s l.at l.seen) × (l.seen.records ≤ l.at) × (l.seen.ids ≤ l.at) × (l.at ≤ length l.s)

abbrev pub decreases-loop-at : goal.decreases-loop-at
decreases-loop-at l = length l.s - l.at
