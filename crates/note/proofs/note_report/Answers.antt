-- `note::note_report` meets its contract: the report, and whether the value can be read.
use Rattle.note.proofs.Laws.{report-is}
use Rattle.note.proofs.note_report.Goals as goal

pub returns : goal.returns
returns c =
    λ h. report-is _ _ _ _ h c.mark-next.ensures c.with_report-assigned.ensures
