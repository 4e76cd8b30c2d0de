-- `decode_image::read_load` meets its contract: its table, and the names of its rows.
use mathlib.Core.Path.{refl, ap, ◌∙◌}
use Rattle.csmp.specs.Values.{moment_of}
use Rattle.tables.specs.Found.{cells_of, held_cells, none_found, none_held}
use Rattle.decode_image.proofs.Laws.{load-by}
use Rattle.decode_image.proofs.read_load.Goals as goal

pub returns : goal.returns
unfolding cells_of held_cells none_found none_held
returns c = load-by c.args.v.now c.load_request-table.ensures refl c.read-reading.ensures c.bytes-hash.ensures (c.moment-time.ensures ∙ ap moment_of c.number.ensures)
