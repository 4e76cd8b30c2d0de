-- `images::load_time` meets its contract: whether one is pending, then its hash.
use mathlib.Core.Path.{ap}
use mathlib.Core.Bool.{not}
use Rattle.images.proofs.Laws.{time-none, time-other, time-same}
use Rattle.images.proofs.load_time.Goals as goal

pub returns-then-not-pending : goal.returns-then-not-pending
returns-then-not-pending c = time-none _ _ c.if-not-pending.true

pub returns-then-not-same : goal.returns-then-not-same
returns-then-not-same c = time-other _ _ _ c.if-not-pending.false c.same.ensures (ap not c.if-not-same.true)

pub returns : goal.returns
returns c = time-same _ _ _ c.if-not-pending.false c.same.ensures (ap not c.if-not-same.false)
