-- `own::put_subscription` meets its contract: by whether one is held.
use Rattle.own.proofs.Laws.{report-not, report-put}
use Rattle.own.proofs.put_subscription.Goals as goal

pub returns-then-not-a : goal.returns-then-not-a
returns-then-not-a c = report-not _ c.if-not-a.true c.put.ensures

pub returns : goal.returns
returns c = report-put _ c.if-not-a.false c.put_report.ensures
