-- What is left to show, goal by goal.
use mathlib.Core.Path.{refl, sym, ◌∙◌}
use native.Mathlib.Omega.{arith}
use Rattle.std.proofs.Common.{rules}
use Rattle.tlv.proofs.Laws.{record-inside}
use Rattle.run.proofs.Walk.{at-end, at-unreadable, going_start, going_end, going_next}
use Rattle.run.proofs.run.Goals as goal

pub loop-at-init : goal.loop-at-init
loop-at-init c = (going_start _ _ _ _ _ _, refl, refl)

pub returns-in_default : goal.returns-in_default
returns-in_default c =
    let l = c.loop-at in
    λ h. going_end _ _ _ _ _ _ l.at (l.invariant.0 h) (at-unreadable _ _ c.loop-at-test.true (sym c.take_record.ensures ∙ c.in_default.is))

pub slice_bounds-run_record-count : goal.slice_bounds-run_record-count
slice_bounds-run_record-count c =
    let i = record-inside c.args.payload.now c.loop-at.at _ (sym c.take_record.ensures ∙ c.in-Some.is) in
    omega arith

pub slice_bounds-run_record-start : goal.slice_bounds-run_record-start
slice_bounds-run_record-start c =
    let i = record-inside c.args.payload.now c.loop-at.at _ (sym c.take_record.ensures ∙ c.in-Some.is) in
    omega arith

pub slice_bounds-run_record-end : goal.slice_bounds-run_record-end
slice_bounds-run_record-end c =
    let i = record-inside c.args.payload.now c.loop-at.at _ (sym c.take_record.ensures ∙ c.in-Some.is) in
    omega arith

pub loop-at-smaller : goal.loop-at-smaller
loop-at-smaller c =
    let i = record-inside c.args.payload.now c.loop-at.at _ (sym c.take_record.ensures ∙ c.in-Some.is) in
    omega arith

pub loop-at-preserved : goal.loop-at-preserved
loop-at-preserved c =
    let l = c.loop-at in
    let s = c.run_record-ran.ensures in (
      λ h. going_next _ _ _ _ _ _ l.at _ _ _ _ _ _ _ (l.invariant.0 h) (sym c.take_record.ensures ∙ c.in-Some.is) s.world s.appended,
      search rules,
      search rules,
    )

pub returns : goal.returns
returns c =
    let l = c.loop-at in
    λ h. going_end _ _ _ _ _ _ l.at (l.invariant.0 h) (at-end _ _ c.loop-at-test.false)
