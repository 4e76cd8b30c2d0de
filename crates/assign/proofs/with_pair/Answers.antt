-- `assign::with_pair` meets its contract: the place is held, or the end.
use Rattle.assign.proofs.Laws.{pair-replaced, pair-added}
use Rattle.assign.proofs.with_pair.Goals as goal

pub returns-then-place-groups : goal.returns-then-place-groups
returns-then-place-groups c = pair-replaced _ _ _ _ c.requires.0 c.if-place-groups.true

pub returns : goal.returns
returns c = pair-added _ _ _ _ c.requires.0 c.if-place-groups.false
