-- What is left to show, goal by goal.
use mathlib.Core.Path.{refl, ◌∙◌}
use mathlib.Core.List.{[]}
use native.Mathlib.Omega.{arith}
use Rattle.buffer.proofs.Puts.{appended-put, appended-most, appended-join}
use Rattle.copy.proofs.Laws.{going_start, going_end, shown-start, shown-past, shown-end, going-id}
use Rattle.copy.proofs.copy_ids.Goals as goal

pub loop-i-init : goal.loop-i-init
loop-i-init c = (rw (shown-start _ _ _ _) (going_start _ _ _ (appended-most (appended-put c.put-end.ensures))), refl)

pub returns-then-ids-i : goal.returns-then-ids-i
returns-then-ids-i c = appended-join [] _ (appended-put c.put-end.ensures) (going_end c.loop-i.invariant.0 (shown-past _ _ _ _ _ c.if-ids-i.true))

pub loop-i-preserved : goal.loop-i-preserved
loop-i-preserved c = (going-id _ _ _ _ _ _ c.if-ids-i.false (omega arith) refl c.loop-i.invariant.0 c.copy_shown-end.ensures, c.copy_shown-end.ensures.kept ∙ c.loop-i.invariant.1)

pub returns : goal.returns
returns c = appended-join [] _ (appended-put c.put-end.ensures) (going_end c.loop-i.invariant.0 (shown-end _ _ _ _ _ (omega arith)))
