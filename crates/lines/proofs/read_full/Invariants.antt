-- The bytes read stay within the buffer, and fewer are left each time.
use Rattle.std.proofs.Common.{◌≤◌, ◌-◌, length}
use Rattle.lines.proofs.read_full.Given as goal

abbrev pub invariant-loop-done : goal.invariant-loop-done
invariant-loop-done g l = l.done ≤ length l.buf

abbrev pub decreases-loop-done : goal.decreases-loop-done
decreases-loop-done g l = length l.buf - l.done
