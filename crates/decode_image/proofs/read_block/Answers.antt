-- `decode_image::read_block` meets its contract: its table, and the names of its rows.
use mathlib.Core.Path.{refl}
use Rattle.tables.specs.Found.{cells_of, held_cells, none_found, none_held}
use Rattle.decode_image.proofs.Laws.{block-by}
use Rattle.decode_image.proofs.read_block.Goals as goal

pub returns : goal.returns
unfolding cells_of held_cells none_found none_held
returns c = block-by c.args.v.now c.image_block-table.ensures refl c.read-reading.ensures c.bytes-hash.ensures c.number-number.ensures c.bytes-data.ensures
