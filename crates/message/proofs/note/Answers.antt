-- `message::note` meets its contract: three stores.
use native.Mathlib.Omega.{arith}
use lib.ListN.{length-set}
use Rattle.message.specs.Read.{noted}
use Rattle.message.proofs.note.Goals as goal

pub bounds-cells-i-3 : goal.bounds-cells-i-3
bounds-cells-i-3 c = let p = c.requires in simp length-set (omega arith)

pub bounds-cells-i-4 : goal.bounds-cells-i-4
bounds-cells-i-4 c = let p = c.requires in simp length-set (omega arith)

pub returns : goal.returns
unfolding noted
returns c = rw (c.one_more.ensures, c.first_of.ensures)
