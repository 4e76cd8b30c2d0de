-- `copy::copy_ids` meets its contract: what was copied and what is left make all.
use Prim.Native.Nat.{◌-◌}
use mathlib.Core.Path.{◌≡◌}
use lib.ListN.{length}
use Rattle.decimal.specs.Ids.{held}
use Rattle.copy.specs.Shown.{shown_all}
use Rattle.copy.proofs.Laws.{Going, shown_from}
use Rattle.copy.proofs.copy_ids.Given as goal

abbrev pub invariant-loop-i : goal.invariant-loop-i
invariant-loop-i l = Going l.initial.out l.initial.end (shown_all l.store l.own (held l.ids)) l.out l.end (shown_from l.store l.own l.ids.list l.ids.count l.i) × (length l.out ≡ length l.initial.out)

abbrev pub decreases-loop-i : goal.decreases-loop-i
decreases-loop-i l = 32 - l.i
