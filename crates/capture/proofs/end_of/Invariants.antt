-- `end_of` meets its contract: what is left of the rows makes all.
use Rattle.capture.proofs.Laws.{Counting}
use Rattle.capture.proofs.end_of.Given as goal

abbrev pub invariant-loop-i : goal.invariant-loop-i
invariant-loop-i l = Counting l.rows l.count l.end l.i
