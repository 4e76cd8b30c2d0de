-- `rounds::report` meets its contract: refused, nothing to send, or sent.
use mathlib.Core.Path.{refl}
use native.Mathlib.Omega.{arith}
use Rattle.refusal.proofs.Laws.{taken, refused, numbered}
use Rattle.rounds.proofs.Laws.{report-refused, report-10, report-sent}
use Rattle.rounds.proofs.report.Goals as goal

pub returns-in-Err : goal.returns-in-Err
returns-in-Err c =
    report-refused _ _ _ _ _ c.is_reporting.ensures (refused _ c.number.ensures c.in-Err.ensures.outcome)
    (numbered _ c.number.ensures (c.in-Err.ensures.numbered (λ f z. absurd (omega arith)))) c.silent.ensures

pub returns-then-len-eq0 : goal.returns-then-len-eq0
returns-then-len-eq0 c = report-10 _ _ _ _ _ c.is_reporting.ensures (taken c.in_default.ensures.outcome) refl c.put_report-len.ensures c.if-len-eq0.true c.silent-then-len-eq0.ensures

pub returns : goal.returns
returns c = report-sent _ _ _ _ _ c.is_reporting.ensures (taken c.in_default.ensures.outcome) refl c.put_report-len.ensures c.if-len-eq0.false c.take_id.ensures c.sent.ensures
