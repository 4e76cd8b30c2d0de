-- `decode_report::read_report` meets its contract: its table, the names of its rows, and the limits of its lists.
use mathlib.Core.Path.{refl, ap, ap₂, ◌∙◌}
use mathlib.Core.Bool.{◌&&◌}
use Rattle.csmp.specs.Values.{interval_of}
use Rattle.message.specs.Read.{limited}
use Rattle.tables.specs.Found.{cells_of, held_cells, none_found, none_held}
use Rattle.decode_report.proofs.Laws.{report-by}
use Rattle.decode_report.proofs.read_report.Goals as goal

pub returns : goal.returns
unfolding cells_of held_cells none_found none_held
returns c =
    report-by c.args.v.now c.report_subscribe-table.ensures refl c.read-told.ensures
    (c.limit-reading.ensures ∙ ap (limited c.read-told.result) (c.both-few.ensures ∙ ap₂ ◌&&◌ c.is_few.ensures c.is_few-2.ensures))
    (c.interval-interval.ensures ∙ ap interval_of c.number.ensures)
    c.read_ids-ids.ensures
