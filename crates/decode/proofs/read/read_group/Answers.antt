-- `decode::read::read_group` meets its contract: its table, and the names of its rows.
use mathlib.Core.Path.{refl}
use Rattle.tables.specs.Found.{cells_of, held_cells, none_found, none_held}
use Rattle.decode.proofs.Laws.{group-by}
use Rattle.decode.proofs.read.read_group.Goals as goal

pub returns : goal.returns
unfolding cells_of held_cells none_found none_held
returns c = group-by c.args.v.now c.group-table.ensures refl c.read-reading.ensures c.number-kind.ensures c.number-id.ensures
