-- `rounds::round` meets its contract: refused, nothing to send, or sent.
use mathlib.Core.Path.{refl}
use native.Mathlib.Omega.{arith}
use Rattle.refusal.proofs.Laws.{taken, refused, numbered}
use Rattle.rounds.proofs.Laws.{round-refused, round-10, round-sent}
use Rattle.rounds.proofs.round.Goals as goal

pub returns-in-Err : goal.returns-in-Err
returns-in-Err c =
    round-refused _ _ _ _ _ (refused _ c.number.ensures c.in-Err.ensures.outcome)
    (numbered _ c.number.ensures (c.in-Err.ensures.numbered (λ f z. absurd (omega arith)))) c.no_round.ensures

pub returns-then-len-eq0 : goal.returns-then-len-eq0
returns-then-len-eq0 c = round-10 _ _ _ _ _ (taken c.in_default.ensures.outcome) refl c.put_registration-len.ensures c.if-len-eq0.true c.no_round-then-len-eq0.ensures

pub returns : goal.returns
returns c = round-sent _ _ _ _ _ (taken c.in_default.ensures.outcome) refl c.put_registration-len.ensures c.if-len-eq0.false c.begin_round.ensures
