-- The bytes up to a place are appended.
use Rattle.buffer.specs.Put.{Appended}
use Rattle.lister.proofs.Laws.{hex_to}
use Rattle.lister.proofs.text.put_hex.Given as goal

abbrev pub invariant-loop-b : goal.invariant-loop-b
invariant-loop-b l = Appended l.initial.out l.at (hex_to l.s l.b-index) l.out l.end
