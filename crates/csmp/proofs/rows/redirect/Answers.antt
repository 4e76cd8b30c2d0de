-- `csmp::rows::redirect` meets its contract: the numbers are the table's.
use mathlib.Core.Path.{refl}
use Rattle.tables.specs.Found.{held_rows, rows_of}
use Rattle.csmp.proofs.rows.redirect.Goals as goal

pub returns : goal.returns
unfolding held_rows rows_of
returns c = refl
