-- `decode::read::read_signature` meets its contract: its table.
use mathlib.Core.Path.{refl}
use Rattle.csmp.specs.Tables.{signature}
use Rattle.csmp.proofs.Formed.{signature-formed}
use Rattle.tables.specs.Found.{cells_of, held_cells, none_found, none_held}
use Rattle.tables.proofs.Theorems.{told-by}
use Rattle.decode.specs.Read.{signature_of}
use Rattle.decode.proofs.read.read_signature.Goals as goal

pub returns : goal.returns
unfolding signature_of cells_of held_cells none_found none_held
returns c = told-by signature signature-formed c.args.v.now c.signature-table.ensures refl c.read.ensures
