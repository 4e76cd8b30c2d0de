-- `assign::regroup` meets its contract: a place for it, or none.
use Rattle.assign.proofs.Laws.{regrouped-not, regrouped-pair}
use Rattle.assign.proofs.regroup.Goals as goal

pub returns-then-place-ge8 : goal.returns-then-place-ge8
returns-then-place-ge8 c = regrouped-not _ _ _ _ c.place_of-place.ensures c.if-place-ge8.true

pub returns : goal.returns
returns c = regrouped-pair _ _ _ _ c.place_of-place.ensures c.if-place-ge8.false _ c.with_pair.ensures
