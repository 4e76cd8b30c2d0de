-- `decode::read::read_validity` meets its contract: its table, and the names of its rows.
use mathlib.Core.Path.{refl, ap, ◌∙◌}
use Rattle.csmp.specs.Values.{moment_of}
use Rattle.tables.specs.Found.{cells_of, held_cells, none_found, none_held}
use Rattle.decode.proofs.Laws.{validity-by}
use Rattle.decode.proofs.read.read_validity.Goals as goal

pub returns : goal.returns
unfolding cells_of held_cells none_found none_held
returns c = validity-by c.args.v.now c.signature_validity-table.ensures refl c.read-reading.ensures (c.moment-not_before.ensures ∙ ap moment_of c.number.ensures) (c.moment-not_after.ensures ∙ ap moment_of c.number-2.ensures)
