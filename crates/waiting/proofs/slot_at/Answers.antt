-- `waiting::slot_at` meets its contract: a slot of four, or none.
use Rattle.waiting.proofs.Laws.{slot-none, slot-one}
use Rattle.waiting.proofs.slot_at.Goals as goal

pub returns-then-slot-ge4 : goal.returns-then-slot-ge4
returns-then-slot-ge4 c = slot-none _ c.if-slot-ge4.true

pub returns : goal.returns
returns c = slot-one _ c.if-slot-ge4.false
