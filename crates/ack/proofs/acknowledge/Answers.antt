-- `ack::acknowledge` meets its contract: not awaited, padded where that is refused, not takable, or taken.
use mathlib.Core.Path.{sym, ◌∙◌}
use Rattle.ack.proofs.Laws.{ack-unawaited, ack-padded, ack-untaken, ack-taken}
use Rattle.ack.proofs.acknowledge.Goals as goal

pub returns-then-not-is_awaited : goal.returns-then-not-is_awaited
returns-then-not-is_awaited c =
    let a = c.args in
    ack-unawaited a.state _ _ _ _ (sym c.is_awaited.ensures ∙ c.if-not-is_awaited.true)

pub returns-then-both : goal.returns-then-both
returns-then-both c =
    let a = c.args in
    ack-padded a.state _ _ _ _ (sym c.is_awaited.ensures ∙ c.if-not-is_awaited.false) c.learn-learned.ensures (sym c.both.ensures ∙ c.if-both.true)

pub returns-then-not-is_takable : goal.returns-then-not-is_takable
returns-then-not-is_takable c =
    let a = c.args in
    ack-untaken a.state _ _ _ _ (sym c.is_awaited.ensures ∙ c.if-not-is_awaited.false) c.learn-learned.ensures
    (sym c.both.ensures ∙ c.if-both.false) (sym c.is_takable.ensures ∙ c.if-not-is_takable.true)

pub returns : goal.returns
returns c =
    let a = c.args in
    ack-taken a.state _ _ _ _ (sym c.is_awaited.ensures ∙ c.if-not-is_awaited.false) c.learn-learned.ensures
    (sym c.both.ensures ∙ c.if-both.false) c.take-next.ensures (sym c.is_takable.ensures ∙ c.if-not-is_takable.false)
