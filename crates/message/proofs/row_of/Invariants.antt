-- `message::row_of` meets its contract: what the table says is what its rows from `i` on say.
use Prim.Native.Nat.{◌-◌}
use mathlib.Core.Path.{◌≡◌}
use lib.ListN.{length}
use Rattle.buffer.specs.Walk.{walk}
use Rattle.message.specs.Read.{row_step, first_row, row_in}
use Rattle.message.proofs.row_of.Given as goal

abbrev pub invariant-loop-i : goal.invariant-loop-i
invariant-loop-i l = row_in l.table l.number ≡ first_row l.number (walk row_step l.table l.i).items

abbrev pub decreases-loop-i : goal.decreases-loop-i
decreases-loop-i l = length l.table - l.i
