-- `assign::with_report` meets its contract: part by part.
use Rattle.assign.specs.Assign.{with_report}
use Rattle.assign.proofs.with_report.Goals as goal

pub returns : goal.returns
unfolding with_report
returns c = rw c.read_report-m.ensures
