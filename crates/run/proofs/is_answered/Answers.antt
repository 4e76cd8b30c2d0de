-- What is left to show, goal by goal.
use mathlib.Core.Path.{sym, ap, ◌∙◌}
use native.Mathlib.Omega.{arith}
use Rattle.tlv.proofs.Laws.{record-inside}
use Rattle.run.specs.Run.{any_answered}
use Rattle.run.proofs.Walk.{at-start, at-end, at-unreadable, answered-end, answered-here, answered-next}
use Rattle.run.proofs.is_answered.Goals as goal

pub loop-at-init : goal.loop-at-init
loop-at-init c = ap any_answered (at-start _)

pub returns-in_default : goal.returns-in_default
returns-in_default c = sym (c.loop-at.invariant ∙ answered-end _ _ (at-unreadable _ _ c.loop-at-test.true (sym c.take_record.ensures ∙ c.in_default.is)))

pub returns-then-is_request : goal.returns-then-is_request
returns-then-is_request c = sym (c.loop-at.invariant ∙ answered-here _ _ _ (sym c.take_record.ensures ∙ c.in-Some.is) (sym c.is_request.ensures ∙ c.if-is_request.true))

pub loop-at-smaller : goal.loop-at-smaller
loop-at-smaller c =
    let i = record-inside c.args.payload.now c.loop-at.at _ (sym c.take_record.ensures ∙ c.in-Some.is) in
    omega arith

pub loop-at-preserved : goal.loop-at-preserved
loop-at-preserved c = c.loop-at.invariant ∙ answered-next _ _ _ (sym c.take_record.ensures ∙ c.in-Some.is) (sym c.is_request.ensures ∙ c.if-is_request.false)

pub returns : goal.returns
returns c = sym (c.loop-at.invariant ∙ answered-end _ _ (at-end _ _ c.loop-at-test.false))
