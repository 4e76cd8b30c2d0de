-- `decode_image::read_hash` meets its contract: its table, and the name of its row.
use mathlib.Core.Path.{refl}
use Rattle.tables.specs.Found.{cells_of, held_cells, none_found, none_held}
use Rattle.decode_image.proofs.Laws.{hash-by}
use Rattle.decode_image.proofs.read_hash.Goals as goal

pub returns : goal.returns
unfolding cells_of held_cells none_found none_held
returns c = hash-by c.args.v.now c.image_hash-table.ensures refl c.read-reading.ensures c.bytes-hash.ensures
