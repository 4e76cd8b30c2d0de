-- `rounds::is_due` meets its contract: a session, an acceptance, an interval.
use borrow.Author.Tests.{not-true, not-false}
use Rattle.rounds.proofs.Laws.{due-unbound, due-unaccepted, due-by}
use Rattle.rounds.proofs.is_due.Goals as goal

pub returns-then-not-assigned : goal.returns-then-not-assigned
returns-then-not-assigned c = due-unbound _ (not-true c.args.state.assigned.in_session c.if-not-assigned.true)

pub returns-then-not-state : goal.returns-then-not-state
returns-then-not-state c =
    let s = c.args.state in
    due-unaccepted _ (not-false s.assigned.in_session c.if-not-assigned.false) (not-true _ c.if-not-state.true)

pub returns : goal.returns
returns c =
    let s = c.args.state in
    due-by _ (not-false s.assigned.in_session c.if-not-assigned.false) (not-false _ c.if-not-state.false)
    c.is_positive.ensures
