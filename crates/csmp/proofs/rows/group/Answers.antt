-- `csmp::rows::group` meets its contract: the numbers are the table's.
use mathlib.Core.Path.{refl}
use Rattle.tables.specs.Found.{held_rows, rows_of}
use Rattle.csmp.proofs.rows.group.Goals as goal

pub returns : goal.returns
unfolding held_rows rows_of
returns c = refl
