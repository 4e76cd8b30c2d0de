-- `rounds::is_reporting` meets its contract: by the report.
use Rattle.rounds.proofs.Laws.{reports-primary, reports-heartbeat}
use Rattle.rounds.proofs.is_reporting.Goals as goal

pub returns-in-Primary : goal.returns-in-Primary
returns-in-Primary c = reports-primary _ _ c.in-Primary.is c.is_due.ensures

pub returns-in-Heartbeat : goal.returns-in-Heartbeat
returns-in-Heartbeat c = reports-heartbeat _ _ c.in-Heartbeat.is
