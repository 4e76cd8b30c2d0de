-- `decode::read::read_session` meets its contract: its table, the name of its row, and a limit.
use mathlib.Core.Path.{refl}
use Rattle.tables.specs.Found.{cells_of, held_cells, none_found, none_held}
use Rattle.decode.proofs.Laws.{session-by}
use Rattle.decode.proofs.read.read_session.Goals as goal

pub returns : goal.returns
unfolding cells_of held_cells none_found none_held
returns c = rw (c.limit-reading.ensures, c.at_most.ensures) (session-by c.args.v.now c.session-table.ensures refl c.read-told.ensures c.bytes-id.ensures)
