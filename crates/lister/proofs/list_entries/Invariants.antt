-- No datagram is longer than 65,535 bytes.
use Rattle.std.proofs.Common.{◌≤◌, ◌*◌}
use Rattle.lister.proofs.list_entries.Given as goal

abbrev pub invariant-loop-n : goal.invariant-loop-n
invariant-loop-n g l = l.start ≤ l.n * 65535
