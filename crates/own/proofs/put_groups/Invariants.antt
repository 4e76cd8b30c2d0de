-- `own::put_groups` meets its contract: those up to a place of the list are appended.
use Prim.Native.Nat.{◌-◌}
use Rattle.buffer.specs.Put.{Appended}
use Rattle.own.proofs.Laws.{groups_to}
use Rattle.own.proofs.put_groups.Given as goal

abbrev pub invariant-loop-i : goal.invariant-loop-i
invariant-loop-i l = Appended l.initial.out l.initial.end (groups_to l.groups.list l.groups.count l.i) l.out l.end

abbrev pub decreases-loop-i : goal.decreases-loop-i
decreases-loop-i l = 8 - l.i
