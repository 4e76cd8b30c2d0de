-- `decode_image::read_transfer` meets its contract: its table, and the names of its rows.
use mathlib.Core.Path.{refl}
use Rattle.tables.specs.Found.{cells_of, held_cells, none_found, none_held}
use Rattle.decode_image.proofs.Laws.{transfer-by}
use Rattle.decode_image.proofs.read_transfer.Goals as goal

pub returns : goal.returns
unfolding cells_of held_cells none_found none_held
returns c = transfer-by c.args.v.now c.transfer_request-table.ensures refl c.read-reading.ensures c.bytes-hw_id.ensures c.bytes-vendor_hw_id.ensures c.bytes-hash.ensures c.bytes-name.ensures c.bytes-version.ensures c.number-size.ensures c.number-block_size.ensures
