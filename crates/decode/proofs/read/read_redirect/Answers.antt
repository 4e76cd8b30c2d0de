-- `decode::read::read_redirect` meets its contract: its table, the names of its rows, and a limit.
use mathlib.Core.Path.{refl}
use Rattle.tables.specs.Found.{cells_of, held_cells, none_found, none_held}
use Rattle.decode.proofs.Laws.{redirect-by}
use Rattle.decode.proofs.read.read_redirect.Goals as goal

pub returns : goal.returns
unfolding cells_of held_cells none_found none_held
returns c = rw (c.limit-reading.ensures, c.at_most.ensures) (redirect-by c.args.v.now c.redirect-table.ensures refl c.read-told.ensures c.bytes-url.ensures c.flag-immediate.ensures)
