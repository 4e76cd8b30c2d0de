-- `encode::write::put_texts` meets its contract: the texts of the ids left are still to be appended, and a step appends the first.
use Prim.Native.Nat.{◌-◌}
use lib.ListN.{length, drop}
use Rattle.encode.specs.Write.{texts}
use Rattle.encode.proofs.WriteLaws.{Left}
use Rattle.encode.proofs.write.put_texts.Given as goal

abbrev pub invariant-loop-i : goal.invariant-loop-i
invariant-loop-i l = Left l.fn.out l.at (texts l.number l.ids) l.out l.end (texts l.number (drop l.i l.ids))

abbrev pub decreases-loop-i : goal.decreases-loop-i
decreases-loop-i l = length l.ids - l.i
