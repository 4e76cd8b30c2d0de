-- What is left to show, goal by goal.
use mathlib.Core.Path.{refl, sym, ◌∙◌}
use mathlib.Core.List.{[]}
use native.Mathlib.Omega.{arith}
use Rattle.buffer.proofs.Puts.{appended-put, appended-most, appended-join}
use Rattle.tlv.proofs.Laws.{record-inside}
use Rattle.copy.proofs.Laws.{going_start, going_end, going-most, copies-start, copies-end, copies-unreadable, going-record}
use Rattle.copy.proofs.copy_records.Goals as goal

pub loop-start-init : goal.loop-start-init
loop-start-init c = (rw (copies-start _ _) (going_start _ _ _ (appended-most (appended-put c.put-end.ensures))), refl)

pub returns-in_default : goal.returns-in_default
returns-in_default c = appended-join [] _ (appended-put c.put-end.ensures) (going_end c.loop-start.invariant.0 (copies-unreadable _ _ _ c.loop-start-test.true (sym c.take_record.ensures ∙ c.in_default.is)))

pub slice_bounds-copy_if-count : goal.slice_bounds-copy_if-count
slice_bounds-copy_if-count c = let i = record-inside c.args.s.now c.loop-start.start _ (sym c.take_record.ensures ∙ c.in-Some.is) in omega arith

pub slice_bounds-copy_if-start : goal.slice_bounds-copy_if-start
slice_bounds-copy_if-start c = let i = record-inside c.args.s.now c.loop-start.start _ (sym c.take_record.ensures ∙ c.in-Some.is) in omega arith

pub slice_bounds-copy_if-end : goal.slice_bounds-copy_if-end
slice_bounds-copy_if-end c = let i = record-inside c.args.s.now c.loop-start.start _ (sym c.take_record.ensures ∙ c.in-Some.is) in omega arith

pub copy_if-end-requires : goal.copy_if-end-requires
copy_if-end-requires c = going-most c.loop-start.invariant.0

pub loop-start-smaller : goal.loop-start-smaller
loop-start-smaller c = let i = record-inside c.args.s.now c.loop-start.start _ (sym c.take_record.ensures ∙ c.in-Some.is) in omega arith

pub loop-start-preserved : goal.loop-start-preserved
loop-start-preserved c = (going-record _ _ _ _ _ (sym c.take_record.ensures ∙ c.in-Some.is) c.is_chosen.ensures c.loop-start.invariant.0 c.copy_if-end.ensures, c.copy_if-end.ensures.kept ∙ c.loop-start.invariant.1)

pub returns : goal.returns
returns c = appended-join [] _ (appended-put c.put-end.ensures) (going_end c.loop-start.invariant.0 (copies-end _ _ _ c.loop-start-test.false))
