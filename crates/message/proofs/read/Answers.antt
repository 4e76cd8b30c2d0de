-- `message::read` meets its contract: four levels, where there is a place for each row.
use mathlib.Core.Path.{refl}
use Rattle.message.proofs.ReadLaws.{leaves, into-other, into-same}
use Rattle.message.proofs.read.Goals as goal

pub returns-then-cells-table : goal.returns-then-cells-table
returns-then-cells-table c = leaves _ _ (into-other _ _ _ c.if-cells-table.true) c.told.ensures refl

pub returns : goal.returns
returns c =
    let x = c.read_message in
    leaves _ _ (into-same _ _ _ c.if-cells-table.false) x.ensures.reading x.ensures.cells
