-- What the code finds by the numbers of ReportSubscribe's table is what the table says, by name.
use Rattle.std.specs.Prelude.{Option}
use Prim.Native.Nat.{ℕ}
use mathlib.Core.Path.{◌≡◌}
use mathlib.Core.List.{List}
use mathlib.Core.Bool.{◌&&◌}
use lib.Dec.{leb}
use lib.ListN.{get_or}
use Rattle.decimal.specs.declared.Ids.{Ids}
use Rattle.message.specs.Read.{number_of, limited, read_into, Scanned}
use Rattle.message.specs.declared.Reading.{Reading}
use Rattle.tables.specs.Table.{values_of, read_by}
use Rattle.tables.specs.Found.{rows_of, none_found, cells_of, held_cells}
use Rattle.tables.proofs.Theorems.{told-by, found-by}
use Rattle.csmp.specs.Tables.{report_subscribe}
use Rattle.csmp.specs.Values.{interval_of}
use Rattle.csmp.proofs.Formed.{report-subscribe-formed}
use Rattle.decode_report.specs.Report.{listed_in, few, report_of}
use Rattle.schedule.specs.declared.Length.{Length}

-- 13
module _ (v : List ℕ) {table cells left : List ℕ} {r : Reading} (p : table ≡ rows_of report_subscribe) (q : cells ≡ cells_of report_subscribe (none_found report_subscribe))
    (x : Scanned (read_into table cells v) r left) where
  pub report-by : {reading : Reading} {interval : Option Length} {ids : Ids}
      → reading ≡ limited r (leb (get_or left 3 0) 32 && leb (get_or left 9 0) 32)
      → interval ≡ interval_of (number_of (get_or left 0 0) (get_or left 1 0))
      → ids ≡ listed_in v
      → record { reading = reading; interval = interval; ids = ids } ≡ report_of v
  unfolding report_of few listed_in read_by values_of cells_of held_cells
  report-by e0 e1 e2 =
      rw (e0, told-by report_subscribe report-subscribe-formed v p q x, e1, e2, found-by report_subscribe report-subscribe-formed v p q x)
